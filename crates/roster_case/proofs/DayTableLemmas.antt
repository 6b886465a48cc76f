-- A day's table: the shortfall with one nurse more, and the tables of a roster with one row replaced.
use Rattle.std.proofs.Common.{◌≡◌, ◌∙◌, ◌+◌, ◌*◌, ◌<◌, ◌≤◌, ℕ, true, ap, arith, sym, List, [], length, nat_lt, slice_index_or}
use Rattle.std.proofs.lemmas.Bool.{and_parts, ltb-true}
use Rattle.std.proofs.lemmas.List.Sums.{sum_by-set}
use Rattle.roster_instance.specs.declared.choice.Choice.{Choice}
use Rattle.roster_instance.specs.declared.choice.Choice.TheVariants.{Work}
use Rattle.roster_instance.specs.declared.rules.Need.{Need}
use Rattle.roster_instance.specs.declared.choice.Shift.{Shift}
use Rattle.roster_instance.specs.declared.choice.Skill.{Skill}
use Rattle.roster_instance.specs.Choices.{same_choice}
use Rattle.roster_instance.specs.Counting.{one_if}
use Rattle.roster_instance.specs.Meaning.{Meaning, need, optimum, shift_at, shift_count, skill_at, skill_count}
use Rattle.roster_instance.specs.Rosters.{Row, Rows, choice_on, cover, is_choice_of, row_of}
use Rattle.roster_rules.specs.Covers.{IsTable}
use Rattle.roster_laws.specs.OneRow.{others}
use Rattle.roster_laws.specs.Staffing.{shortfall, with_choice}
use Rattle.roster_laws.proofs.Shortfall.{shortfall-work}

-- ---- a choice of the case

work_of_case : (c : Meaning) (shift : Shift) (skill : Skill) → is_choice_of c (Work shift skill) ≡ true → (shift.0 < shift_count c) × (skill.0 < skill_count c)
work_of_case c shift skill known =
    let parts = and_parts (nat_lt shift.0 (shift_count c)) (nat_lt skill.0 (skill_count c)) known in
    (ltb-true shift.0 (shift_count c) parts.0, ltb-true skill.0 (skill_count c) parts.1)

module _ (c : Meaning) (shifts : shift_count c ≤ 8) (skills : skill_count c ≤ 8) where
  -- one nurse more makes the slot short by one less, if its optimum isn't reached
  pub shortfall_of_work : (d : ℕ) (table : List ℕ) (choice : Choice) → is_choice_of c choice ≡ true → (shift : Shift) (skill : Skill) → choice ≡ Work shift skill → (slot : ℕ) → slot ≡ 8 * shift.0 + skill.0 → (wanted : Need) → wanted ≡ need c d shift.0 skill.0 → (have : ℕ → ℕ → ℕ) → IsTable have table
      → shortfall c (optimum c d) (with_choice have choice) + one_if (nat_lt (slice_index_or table slot 0) wanted.optimum) ≡ shortfall c (optimum c d) have
  shortfall_of_work d table choice known shift skill is slot slot_is wanted wanted_is have are =
      let parts = work_of_case c shift skill (ap (is_choice_of c) (sym is) ∙ known) in
      let at : slice_index_or table slot 0 ≡ have shift.0 skill.0 = ap (λ i. slice_index_or table i 0) slot_is ∙ are shift.0 skill.0 (omega (arith, parts.0, shifts)) (omega (arith, parts.1, skills)) in
      (λ i. shortfall c (optimum c d) (with_choice have (is i)) + one_if (nat_lt (at i) (wanted_is i).optimum)) ∙ shortfall-work c (optimum c d) have shift skill parts.0 parts.1

-- ---- what the nurse herself adds to a slot's cover

module _ (r : Rows) (n : ℕ) (within : n < length r) where
  pub cover-parts : (d s k : ℕ) → cover r d s k ≡ with_choice (others r n d) (choice_on (row_of r n) d) s k
  cover-parts d s k =
      let one : Row → ℕ = λ own. one_if (same_choice (choice_on own d) (Work (shift_at s) (skill_at k))) in
      omega (arith, sum_by-set one r n [] [] within)
