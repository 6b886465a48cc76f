-- In a roster that keeps the hard rules each nurse's row is one that she can work.
use Rattle.std.proofs.Common.{◌≡◌, ◌∙◌, ◌||◌, ◌<◌, ◌&&◌, ℕ, Bool, true, false, not, ap, refl, sym, Contains}
use Rattle.std.proofs.lemmas.Bool.{and_from, and_parts}
use Rattle.roster_instance.specs.declared.choice.Choice.{Choice}
use Rattle.roster_instance.specs.Choices.{all_choices, all_rows, same_choice}
use Rattle.roster_instance.specs.Counting.{all_below}
use Rattle.roster_instance.specs.Meaning.{Meaning, day_count, nurse_count}
use Rattle.roster_instance.specs.Rosters.{Rows, choice_on, cover, days_of_nurse, fits_case, row_of}
use Rattle.roster_instance.proofs.RosterFacts.{row_fits}
use Rattle.roster_rules.specs.AllowedRows.{is_frozen, keeps_frozen_day, keeps_frozen_days}
use Rattle.roster_rules.specs.HardRules.{keeps_absences, keeps_hard, keeps_skills, keeps_successions}
use Rattle.roster_laws.specs.Staffing.{meets}
use Rattle.roster_laws.specs.FrozenDays.{FrozenDaysStay}
use Rattle.roster_laws.proofs.AllRows.{row_is_member}
use Rattle.roster_laws.proofs.Allowed.{member_is_kept}
use Rattle.roster_laws.proofs.Below.{all_elim, all_true}
use Rattle.roster_laws.proofs.Keeps.{keeps_hard-parts}
use Rattle.roster_laws.proofs.SameRows.{same_choice_self}
use Rattle.roster_prices.specs.LowerBounds.{can_work, own_rows}

-- the given choice keeps a frozen day
keeps_given : (c : Meaning) (from : ℕ) (given : Rows) (n d : ℕ) (x : Choice) → (is_frozen c from n d ≡ true → x ≡ choice_on (row_of given n) d) → keeps_frozen_day c from given n d x ≡ true
keeps_given c from given n d x same = go (is_frozen c from n d) refl
  where
    go : (b : Bool) → is_frozen c from n d ≡ b → (not b || same_choice x (choice_on (row_of given n) d)) ≡ true
    go false e = refl
    go true e = ap (λ y. same_choice y (choice_on (row_of given n) d)) (same e) ∙ same_choice_self (choice_on (row_of given n) d)

-- ---- the rules of a roster that keeps them, one by one

module _ (c : Meaning) (r : Rows) (keeps : keeps_hard c r ≡ true) where
  all_rules : (all_below (day_count c) (λ d. meets c d (cover r d)) && all_below (nurse_count c) (λ n. keeps_successions c n (days_of_nurse r n) (day_count c)) && all_below (nurse_count c) (λ n. keeps_skills c n (row_of r n) (day_count c)) ≡ true) × (all_below (nurse_count c) (λ n. keeps_absences c n (row_of r n) (day_count c)) ≡ true)
  all_rules = and_parts _ _ (sym (keeps_hard-parts c r) ∙ keeps)

  rules : (all_below (day_count c) (λ d. meets c d (cover r d)) && all_below (nurse_count c) (λ n. keeps_successions c n (days_of_nurse r n) (day_count c)) ≡ true) × (all_below (nurse_count c) (λ n. keeps_skills c n (row_of r n) (day_count c)) ≡ true)
  rules = and_parts _ _ all_rules.0

  pub two_rules : (all_below (day_count c) (λ d. meets c d (cover r d)) ≡ true) × (all_below (nurse_count c) (λ n. keeps_successions c n (days_of_nurse r n) (day_count c)) ≡ true)
  two_rules = and_parts _ _ rules.0

-- ---- its rows

module _ (c : Meaning) (from : ℕ) (given : Rows) (r : Rows) (fits : fits_case c r ≡ true) (keeps : keeps_hard c r ≡ true) (stays : FrozenDaysStay c from given r) (n : ℕ) (inside : n < nurse_count c) where
  frozen_kept : keeps_frozen_days c from given n (row_of r n) ≡ true
  frozen_kept = all_true (day_count c) (λ d. keeps_frozen_day c from given n d (choice_on (row_of r n) d)) (λ d h. keeps_given c from given n d (choice_on (row_of r n) d) (stays n d h))

  pub worked : can_work c from given n (row_of r n) ≡ true
  worked =
      let skills : Bool = keeps_skills c n (row_of r n) (day_count c) in
      let absences : Bool = keeps_absences c n (row_of r n) (day_count c) in
      let successions : Bool = keeps_successions c n (days_of_nurse r n) (day_count c) in
      and_from (skills && absences && successions) (keeps_frozen_days c from given n (row_of r n))
      (and_from (skills && absences) successions (and_from skills absences (all_elim (nurse_count c) (λ n. keeps_skills c n (row_of r n) (day_count c)) (rules c r keeps).1 n inside) (all_elim (nurse_count c) (λ n. keeps_absences c n (row_of r n) (day_count c)) (all_rules c r keeps).1 n inside)) (all_elim (nurse_count c) (λ n. keeps_successions c n (days_of_nurse r n) (day_count c)) (two_rules c r keeps).1 n inside)) frozen_kept

  pub among : Contains (own_rows c from given n) (row_of r n)
  among = member_is_kept (can_work c from given n) (all_rows (all_choices c) (day_count c)) (row_of r n) (row_is_member c (row_of r n) (row_fits c r n fits inside)) worked
