-- A row from day to day: its first days, and whether they keep the successions.
use Rattle.std.proofs.Common.{◌≡◌, ◌∙◌, ◌+◌, ◌-◌, ◌<◌, ◌≤◌, ◌⊎◌, ℕ, zero, suc, Bool, true, false, ap, arith, if◌then◌else◌, inl, inr, refl, sym, ◌==◌, [], ◌∷◌, ◌++◌, length, take, Option}
use Rattle.std.proofs.Math.ListN.{get_or-map}
use Rattle.std.proofs.Math.Seq.{take-suc}
use Rattle.std.proofs.lemmas.Bool.{cases_eq, false_from_ne_true}
use Rattle.std.proofs.lemmas.List.{get_or-take, length-map, length-take-le, map-append}
use Rattle.roster_instance.specs.declared.choice.Choice.TheVariants.{Off}
use Rattle.roster_instance.specs.declared.choice.Shift.{Shift}
use Rattle.roster_instance.specs.Choices.{days_of, shift_of}
use Rattle.roster_instance.specs.Days.{Days, shift_on}
use Rattle.roster_rules.specs.HardRules.{shift_before}
use Rattle.roster_instance.specs.Meaning.{Meaning, last_shift, past_of, forbids}
use Rattle.roster_rules.specs.Prefix.{Summary, last_of, summary_of}
use Rattle.roster_instance.specs.Rosters.{Row, choice_on}

abbrev pub front : ℕ → Row → Days
front day row = days_of (take day row)

pub length_front : (row : Row) (day : ℕ) → day ≤ length row → length (front day row) ≡ day
length_front row day within = length-map (take day row) shift_of ∙ length-take-le day row within

shift_in_front : (row : Row) (day d : ℕ) → d < day → shift_on (front day row) d ≡ shift_on (days_of row) d
shift_in_front row day d before =
    get_or-map shift_of (take day row) d Off ∙ ap shift_of (get_or-take day row d Off before) ∙ sym (get_or-map shift_of row d Off)

-- the shift before a day is the last of the days up to it
before_by : (last : Option Shift) (row : Row) (day : ℕ) → shift_before last (front day row) day ≡ shift_before last (days_of row) day
before_by last row zero = refl
before_by last row (suc d) = ap (λ s. if suc d == 0 then last else s) (shift_in_front row (suc d) (suc d - 1) (omega arith))

pub last_of_front : (c : Meaning) (n : ℕ) (row : Row) (day : ℕ) → day ≤ length row → last_of c n (front day row) ≡ shift_before (last_shift (past_of c n).border) (days_of row) day
last_of_front c n row day within = ap (shift_before (last_shift (past_of c n).border) (front day row)) (length_front row day within) ∙ before_by (last_shift (past_of c n).border) row day

-- the first days with one day more
pub front_more : (row : Row) (day : ℕ) (shift : Option Shift) → day < length row → shift ≡ shift_of (choice_on row day) → front (day + 1) row ≡ front day row ++ shift ∷ []
front_more row day shift inside is =
    let one : day + 1 ≡ suc day = omega arith in
    ap (λ k. front k row) one ∙ ap days_of (take-suc row day Off inside) ∙ map-append shift_of (take day row) (choice_on row day ∷ []) ∙ ap (λ s. front day row ++ s ∷ []) (sym is)

-- whether a day's shift is forbidden, by the summary of the days before it
pub forbidden_by : (c : Meaning) (n : ℕ) (row : Row) (day : ℕ) (s : Summary) (shift : Option Shift) → day ≤ length row → s ≡ summary_of c n (front day row) → shift ≡ shift_of (choice_on row day)
    → forbids c.successions s.last shift ≡ forbids c.successions (shift_before (last_shift (past_of c n).border) (days_of row) day) (shift_on (days_of row) day)
unfolding summary_of
forbidden_by c n row day s shift within is shift_is =
    let last : s.last ≡ shift_before (last_shift (past_of c n).border) (days_of row) day = ap (λ (x : Summary). x.last) is ∙ last_of_front c n row day within in
    let own : shift ≡ shift_on (days_of row) day = shift_is ∙ sym (get_or-map shift_of row day Off) in
    λ i. forbids c.successions (last i) (own i)

-- one more day keeps them
pub kept_more : (p : ℕ → Bool) (day : ℕ) → ((d : ℕ) → d < day → p d ≡ false) → (p day ≡ true → ⊥) → (d : ℕ) → d < day + 1 → p d ≡ false
kept_more p day so_far own d below = go (cases_eq d day)
  where
    go : (d ≡ day) ⊎ (d ≡ day → ⊥) → p d ≡ false
    go (inl same) = ap p same ∙ false_from_ne_true (p day) own
    go (inr other) = so_far d (omega (arith, below, other))
