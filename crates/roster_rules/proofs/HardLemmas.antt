-- The first of the faults at each number below a bound.
use Rattle.std.proofs.Common.{◌≡◌, ◌∙◌, ◌+◌, ◌-◌, ◌<◌, Bool, true, false, ℕ, suc, refl, sym, ap, arith, List, [], ◌∷◌, ◌++◌, Option, Some, None}
use Rattle.std.specs.List.{flat_map, range_with_len}
use Rattle.std.specs.Option.{option_or}
use Rattle.std.proofs.lemmas.Grind.{flat_map-append}
use Rattle.std.proofs.Math.ListN.{get_or-map}
use Rattle.roster_bundle.proofs.Ranges.{flat_map-range_more, range_with_len-add}
use Rattle.roster_instance.specs.Choices.{shift_of}
use Rattle.roster_instance.specs.Days.{Days, shift_on}
use Rattle.roster_instance.specs.Faults.{below, fault_if, first_fault}
use Rattle.roster_rules.specs.HardRules.{shift_before}
use Rattle.roster_instance.specs.Rosters.{Row, Rows, choice_on, days_of_nurse, row_of}
use Rattle.roster_instance.specs.declared.choice.Choice.TheVariants.{Off}
use Rattle.roster_instance.specs.declared.choice.Shift.{Shift}
use Rattle.roster_instance.proofs.Sections.{both_none, first-after, first-front}

-- a list without a first fault is empty
pub none_of-none : {F : Type 0} (faults : List F) → first_fault faults ≡ None → faults ≡ []
none_of-none [] none = refl
none_of-none (f ∷ fs) none = absurd (cc)

-- the first fault of two lists
pub first_fault_of_both : {F : Type 0} (xs ys : List F) → first_fault (xs ++ ys) ≡ option_or (first_fault xs) (first_fault ys)
first_fault_of_both [] ys = refl
first_fault_of_both (x ∷ xs) ys = refl

pub first_where : {F : Type 0} (b : Bool) (fault : F) → b ≡ true → Some fault ≡ first_fault (fault_if b fault)
first_where b fault e = ap (λ c. first_fault (fault_if c fault)) (sym e)

pub none_where : {F : Type 0} (b : Bool) (fault : F) → b ≡ false → first_fault (fault_if b fault) ≡ None
none_where b fault e = ap (λ c. first_fault (fault_if c fault)) e

-- one more number, without a fault
pub below_more : {F : Type 0} (f : ℕ → List F) (i : ℕ) → below i f ≡ [] → first_fault (f i) ≡ None → below (i + 1) f ≡ []
below_more f i none none_here = flat_map-range_more f i ∙ both_none (below i f) (f i) none (none_of-none (f i) none_here)

-- the first fault at a number, if the numbers before it have none
pub below_first : {F : Type 0} (f : ℕ → List F) (n i : ℕ) (fault : F) → i < n → below i f ≡ [] → Some fault ≡ first_fault (f i) → Some fault ≡ first_fault (below n f)
below_first f n i fault within none first =
    let rest = flat_map f (range_with_len (i + 1) (n - (i + 1))) in
    let count : n ≡ i + suc (n - (i + 1)) = omega arith in
    let from : 0 + i ≡ i = omega arith in
    let split : below n f ≡ below i f ++ (f i ++ rest) =
    ap (λ m. below m f) count
    ∙ ap (flat_map f) (range_with_len-add 0 i (suc (n - (i + 1))) ∙ ap (λ a. range_with_len 0 i ++ range_with_len a (suc (n - (i + 1)))) from)
    ∙ flat_map-append f (range_with_len 0 i) (range_with_len i (suc (n - (i + 1)))) in
    sym (ap first_fault split ∙ first-after (below i f) (f i ++ rest) fault none (first-front (f i) rest fault (sym first)))

-- ---- the shift before a day

pub shift_before_more : (last : Option Shift) (days : Days) (day : ℕ) → shift_before last days (day + 1) ≡ shift_on days day
shift_before_more last days day = grind arith

-- the shift of a day, from the row
pub shift_on_row : (r : Rows) (nurse day : ℕ) (row : Row) (shift : Option Shift) → row ≡ row_of r nurse → shift ≡ shift_of (choice_on row day) → shift ≡ shift_on (days_of_nurse r nurse) day
shift_on_row r nurse day row shift is shift_is = shift_is ∙ ap (λ (own : Row). shift_of (choice_on own day)) is ∙ sym (get_or-map shift_of (row_of r nurse) day Off)
