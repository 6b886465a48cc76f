-- A list of boxes in which one is set, and the boxes after a day by one more last shift.
use Rattle.std.proofs.Common.{◌≡◌, ◌∙◌, ◌<◌, ◌≤◌, ◌⊎◌, ◌≢◌, ℕ, inl, inr, ap, arith, get_or-set_other, subst, sym, List, [], ◌∷◌, length, slice_index_or, slice_set, Option, Some, None, IfSome}
use Rattle.std.proofs.lemmas.Bool.{cases_lt}
use Rattle.std.proofs.lemmas.Grind.{get_or-set_at}
use Rattle.std.proofs.lemmas.List.{get_or-replicate, get_or_default, get_or_past}
use Rattle.roster_instance.specs.declared.choice.Shift.{Shift}
use Rattle.roster_rules.specs.Prefix.{Summary}
use Rattle.roster_state.specs.declared.state_box.StateBox.{StateBox}
use Rattle.roster_state.specs.Boxes.{InBox, box_at, empty_box}
use Rattle.roster_state.specs.Codes.{shift_digit, shift_numbered}
use Rattle.roster_state.proofs.CodeLemmas.{shift_numbered-shift_digit}

pub box_set : (boxes : List StateBox) (to digit : ℕ) (state_box : StateBox) (s : Summary) → digit ≡ to → to < length boxes → InBox state_box s → InBox (box_at (slice_set boxes to state_box) digit) s
box_set boxes to digit state_box s is inside there = subst (λ (x : StateBox). InBox x s) (sym (get_or-set_at boxes to digit state_box empty_box is inside)) there

pub box_kept : (boxes : List StateBox) (to digit : ℕ) (state_box : StateBox) (s : Summary) → to < length boxes → (InBox (box_at boxes to) s → InBox state_box s) → InBox (box_at boxes digit) s → InBox (box_at (slice_set boxes to state_box) digit) s
box_kept boxes to digit state_box s inside keeps there = go (cases_lt digit to) (cases_lt to digit)
  where
    other : digit ≢ to → InBox (box_at (slice_set boxes to state_box) digit) s
    other ne = subst (λ (x : StateBox). InBox x s) (sym (get_or-set_other boxes to digit state_box empty_box ne)) there

    go : (digit < to) ⊎ (to ≤ digit) → (to < digit) ⊎ (digit ≤ to) → InBox (box_at (slice_set boxes to state_box) digit) s
    go (inl below) q = let ne : digit ≢ to = omega arith in other ne
    go (inr from) (inl above) = let ne : digit ≢ to = omega arith in other ne
    go (inr from) (inr up_to) =
        let is : digit ≡ to = omega arith in
        box_set boxes to digit state_box s is inside (keeps (subst (λ d. InBox (box_at boxes d) s) is there))

-- the last shift with this number
pub last_of_digit : (last : Option Shift) (digit : ℕ) → shift_digit last ≡ digit → last ≡ shift_numbered digit
last_of_digit last digit is = sym (shift_numbered-shift_digit last) ∙ ap shift_numbered is

pub box_shown : (boxes : List StateBox) (digit : ℕ) (d : StateBox) (s : Summary) → digit < length boxes → InBox (box_at boxes digit) s → InBox (slice_index_or boxes digit d) s
box_shown boxes digit d s inside = subst (λ (x : StateBox). InBox x s) (get_or_default boxes digit empty_box d inside)

-- a list that has no other box
abbrev nowhere_else : List StateBox
nowhere_else = empty_box ∷ empty_box ∷ empty_box ∷ empty_box ∷ empty_box ∷ empty_box ∷ empty_box ∷ empty_box ∷ empty_box ∷ []

pub box_alone : (to digit : ℕ) (state_box : StateBox) → digit ≡ to → to < 9 → box_at (slice_set nowhere_else to state_box) digit ≡ state_box
box_alone to digit state_box is inside = get_or-set_at nowhere_else to digit state_box empty_box is inside

nowhere_at : (digit : ℕ) → box_at nowhere_else digit ≡ empty_box
nowhere_at digit = elim (cases_lt digit 9) [
  | inl below ↦ get_or-replicate 9 digit empty_box empty_box below
  | inr past ↦ get_or_past nowhere_else digit empty_box past
]

pub no_other_box : (to digit : ℕ) (state_box : StateBox) → digit ≢ to → box_at (slice_set nowhere_else to state_box) digit ≡ empty_box
no_other_box to digit state_box ne = get_or-set_other nowhere_else to digit state_box empty_box ne ∙ nowhere_at digit

pub digit_few : (shift : Option Shift) (shifts : ℕ) → IfSome shift (λ s. s.0 < shifts) → shifts ≤ 8 → shift_digit shift < 9
digit_few None shifts given few = omega arith
digit_few (Some s) shifts given few = omega (arith, given, few)
