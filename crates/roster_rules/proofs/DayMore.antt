-- A row with one more day.
use Rattle.std.proofs.Common.{◌≡◌, refl, arith, ℕ, suc, ◌<◌, ◌≤◌, [], ◌∷◌, ◌++◌, length, Option, None}
use Rattle.std.proofs.lemmas.List.{get_or_append_left, get_or_push, get_or_past, length-append}
use Rattle.roster_instance.specs.declared.choice.Shift.{Shift}
use Rattle.roster_instance.specs.Days.{Days, shift_on}

pub length_more : (days : Days) (c : Option Shift) → length (days ++ c ∷ []) ≡ suc (length days)
length_more days c = omega (arith, length-append days (c ∷ []))

pub shift_before_it : (days : Days) (c : Option Shift) (k : ℕ) → k < length days → shift_on (days ++ c ∷ []) k ≡ shift_on days k
shift_before_it days c k h = get_or_append_left days (c ∷ []) None k h

pub shift_of_it : (days : Days) (c : Option Shift) → shift_on (days ++ c ∷ []) (length days) ≡ c
shift_of_it days c = get_or_push days c None (length days) refl

pub off_past : (days : Days) (k : ℕ) → length days ≤ k → shift_on days k ≡ None
off_past days k h = get_or_past days k None h

pub off_after_it : (days : Days) (c : Option Shift) → shift_on (days ++ c ∷ []) (suc (length days)) ≡ None
off_after_it days c = off_past (days ++ c ∷ []) (suc (length days)) (omega (arith, length_more days c))
