-- What a roster that fits a case has.
use Rattle.std.proofs.Common.{◌≡◌, ◌∙◌, ◌<◌, ◌==◌, ℕ, zero, suc, Bool, true, ap, arith, refl, sym, List, [], ◌∷◌, get_or, length, nat_lt}
use Rattle.std.proofs.lemmas.Bool.{and_parts, eqb-true, ltb-true}
use Rattle.std.proofs.lemmas.List.{length-map}
use Rattle.std.proofs.lemmas.List.Elements.{All-get_or}
use Rattle.std.proofs.lemmas.List.Sums.{AllPass-from_list_all}
use Rattle.std.specs.List.{list_all}
use Rattle.roster_instance.specs.Choices.{shift_of}
use Rattle.roster_instance.specs.Meaning.{Meaning, day_count, nurse_count, shift_count, skill_count}
use Rattle.roster_instance.specs.Rosters.{Rows, choice_on, days_of_nurse, fits_case, is_choice_of, is_row_of, row_of}
use Rattle.roster_instance.specs.declared.choice.Choice.TheVariants.{Off, Work}
use Rattle.roster_instance.specs.declared.choice.Shift.{Shift}
use Rattle.roster_instance.specs.declared.choice.Skill.{Skill}

-- if all items pass, and the default does, the item at any index does
all_or : {X : Type 0} (p : X → Bool) (xs : List X) (i : ℕ) (d : X) → list_all p xs ≡ true → p d ≡ true → p (get_or xs i d) ≡ true
all_or p [] i d all none = none
all_or p (x ∷ xs) zero d all none = (and_parts (p x) (list_all p xs) all).0
all_or p (x ∷ xs) (suc i) d all none = all_or p xs i d (and_parts (p x) (list_all p xs) all).1 none

module _ (c : Meaning) (r : Rows) (n : ℕ) (fit : fits_case c r ≡ true) (within : n < nurse_count c) where
  -- each nurse has a row
  pub has_row : n < length r
  has_row = omega (arith, eqb-true (length r) (nurse_count c) (and_parts (length r == nurse_count c) (list_all (is_row_of c) r) fit).0)

  -- the row fits the case
  pub row_fits : is_row_of c (row_of r n) ≡ true
  row_fits = All-get_or (λ row. is_row_of c row ≡ true) r n [] has_row (AllPass-from_list_all (is_row_of c) r (and_parts (length r == nurse_count c) (list_all (is_row_of c) r) fit).1)

  -- the row has the days of the case
  pub row-length : length (row_of r n) ≡ day_count c
  row-length = eqb-true (length (row_of r n)) (day_count c) (and_parts (length (row_of r n) == day_count c) (list_all (is_choice_of c) (row_of r n)) row_fits).0

  pub days_of_nurse-length : length (days_of_nurse r n) ≡ day_count c
  days_of_nurse-length = length-map (row_of r n) shift_of ∙ row-length

  -- a shift and a skill that are worked are the case's
  pub works-of_case : (day : ℕ) (shift : Shift) (skill : Skill) → choice_on (row_of r n) day ≡ Work shift skill → (shift.0 < shift_count c) × (skill.0 < skill_count c)
  works-of_case day shift skill works =
      let all = (and_parts (length (row_of r n) == day_count c) (list_all (is_choice_of c) (row_of r n)) row_fits).1 in
      let own : is_choice_of c (Work shift skill) ≡ true = ap (is_choice_of c) (sym works) ∙ all_or (is_choice_of c) (row_of r n) day Off all refl in
      let parts = and_parts (nat_lt shift.0 (shift_count c)) (nat_lt skill.0 (skill_count c)) own in
      (ltb-true shift.0 (shift_count c) parts.0, ltb-true skill.0 (skill_count c) parts.1)
