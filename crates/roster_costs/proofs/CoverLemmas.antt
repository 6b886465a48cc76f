-- The table of a day's cover, filled nurse by nurse.
use Rattle.std.proofs.Common.{◌≡◌, ◌∙◌, ◌+◌, ◌-◌, ◌*◌, ◌<◌, ◌≤◌, ◌⊎◌, ◌&&◌, ◌==◌, ℕ, Bool, true, false, inl, inr, ap, ap₂, arith, sym, List, [], length, replicate, take, nat_lt, slice_index_or, slice_set}
use Rattle.std.proofs.Math.Bool.{and-false}
use Rattle.std.proofs.Common.{eq-eqb}
use Rattle.std.proofs.lemmas.Bool.{cases_eq, ne_eqb}
use Rattle.std.proofs.lemmas.List.{get_or-replicate, get_or-set_other, get_or-set_same}
use Rattle.std.proofs.lemmas.List.Sums.{count_by_more_no, count_by_more_yes}
use Rattle.roster_instance.specs.Choices.{same_choice}
use Rattle.roster_rules.specs.Covers.{AreCovers, IsTable, number_at}
use Rattle.roster_rules.specs.Penalties.{staffing_cost_by}
use Rattle.roster_rules.specs.Weights.{staffing_weight}
use Rattle.roster_rules.proofs.RunSums.{sum_same}
use Rattle.roster_rules.specs.HardRules.{staffing_fault}
use Rattle.roster_rules.specs.declared.fault.HardFault.TheVariants.{H2}
use Rattle.roster_instance.specs.Faults.{fault_if}
use Rattle.roster_instance.specs.Limits.{most_shifts, most_skills}
use Rattle.roster_instance.specs.Meaning.{Meaning, minimum, optimum, shift_at, shift_count, skill_at, skill_count}
use Rattle.roster_instance.specs.Rosters.{Row, Rows, choice_on, cover, row_of}
use Rattle.roster_instance.specs.declared.choice.Choice.{Choice}
use Rattle.roster_instance.specs.declared.choice.Choice.TheVariants.{Off, Work}
use Rattle.roster_instance.specs.declared.choice.Shift.{Shift}
use Rattle.roster_instance.specs.declared.choice.Skill.{Skill}

-- nothing is counted at first
pub none_counted : (i : ℕ) → i < 64 → slice_index_or (replicate {A = ℕ} 64 0) i 0 ≡ 0
none_counted i h = get_or-replicate {A = ℕ} 64 i 0 0 h

-- one nurse more in a slot
pub few_more : (counts : List ℕ) (n slot : ℕ) → slot < length counts → ((i : ℕ) → i < 64 → slice_index_or counts i 0 ≤ n) → length counts ≡ 64 → (i : ℕ) → i < 64 → slice_index_or (slice_set counts slot (slice_index_or counts slot 0 + 1)) i 0 ≤ n + 1
few_more counts n slot inside few sized i within = go (cases_eq i slot)
  where
    here : ℕ
    here = slice_index_or counts slot 0 + 1

    go : (i ≡ slot) ⊎ (i ≡ slot → ⊥) → slice_index_or (slice_set counts slot here) i 0 ≤ n + 1
    go (inl same) = omega (arith, ap (λ j. slice_index_or (slice_set counts slot here) j 0) same ∙ get_or-set_same counts slot here 0 inside, few slot (omega (arith, inside, sized)))
    go (inr other) = omega (arith, get_or-set_other counts slot i here 0 other, few i within)

module _ (r : Rows) (day n : ℕ) (inside : n < length r) (row : Row) (choice : Choice) (row_is : row ≡ row_of r n) (is : choice ≡ choice_on row day) where
  -- the nurse works this shift with this skill
  abbrev own : ℕ → ℕ → Bool
  own s k = same_choice choice (Work (shift_at s) (skill_at k))

  abbrev own_in : ℕ → ℕ → Row → Bool
  own_in s k row = same_choice (choice_on row day) (Work (shift_at s) (skill_at k))

  own_same : (s k : ℕ) (b : Bool) → own s k ≡ b → own_in s k (row_of r n) ≡ b
  own_same s k b e = ap (own_in s k) (sym row_is) ∙ ap (λ c. same_choice c (Work (shift_at s) (skill_at k))) (sym is) ∙ e

  cover_no : (s k : ℕ) → own s k ≡ false → cover (take (n + 1) r) day s k ≡ cover (take n r) day s k
  cover_no s k e = count_by_more_no (own_in s k) r n [] inside (own_same s k false e)

  cover_yes : (s k : ℕ) → own s k ≡ true → cover (take (n + 1) r) day s k ≡ cover (take n r) day s k + 1
  cover_yes s k e = count_by_more_yes (own_in s k) r n [] inside (own_same s k true e)

  module _ (counts : List ℕ) (counted : AreCovers (take n r) day counts) where
    -- a nurse who is off is counted nowhere
    pub counted_off : choice ≡ Off → AreCovers (take (n + 1) r) day counts
    counted_off off s k s_in k_in = counted s k s_in k_in ∙ sym (cover_no s k (ap (λ c. same_choice c (Work (shift_at s) (skill_at k))) off))

    module _ (shift : Shift) (skill : Skill) (works : choice ≡ Work shift skill) (shift_in : shift.0 < 8) (skill_in : skill.0 < 8) (slot : ℕ) (slot_is : slot ≡ 8 * shift.0 + skill.0)
        (sized : length counts ≡ 64) where
      own_by : (s k : ℕ) → own s k ≡ ((shift.0 == s) && (skill.0 == k))
      own_by s k = ap (λ c. same_choice c (Work (shift_at s) (skill_at k))) works

      abbrev more : List ℕ
      more = slice_set counts slot (slice_index_or counts slot 0 + 1)

      at_its_slot : (s k : ℕ) → s < 8 → k < 8 → s ≡ shift.0 → k ≡ skill.0 → slice_index_or more (8 * s + k) 0 ≡ cover (take (n + 1) r) day s k
      at_its_slot s k s_in k_in e f =
          let here : 8 * s + k ≡ slot = omega (arith, e, f, slot_is) in
          let yes : own s k ≡ true = own_by s k ∙ ap₂ (λ a b. a && b) (eq-eqb shift.0 s (sym e)) (eq-eqb skill.0 k (sym f)) in
          ap (λ j. slice_index_or more j 0) here
          ∙ get_or-set_same counts slot (slice_index_or counts slot 0 + 1) 0 (omega (arith, slot_is, sized, shift_in, skill_in))
          ∙ ap (λ j. slice_index_or counts j 0 + 1) (sym here)
          ∙ ap (λ x. x + 1) (counted s k s_in k_in)
          ∙ sym (cover_yes s k yes)

      elsewhere : (s k : ℕ) → s < 8 → k < 8 → (8 * s + k ≡ slot → ⊥) → own s k ≡ false → slice_index_or more (8 * s + k) 0 ≡ cover (take (n + 1) r) day s k
      elsewhere s k s_in k_in other not_own =
          get_or-set_other counts slot (8 * s + k) (slice_index_or counts slot 0 + 1) 0 other ∙ counted s k s_in k_in ∙ sym (cover_no s k not_own)

      -- a nurse who works is counted in one slot
      pub counted_work : AreCovers (take (n + 1) r) day more
      counted_work s k s_in k_in = go (cases_eq s shift.0) (cases_eq k skill.0)
        where
          go : (s ≡ shift.0) ⊎ (s ≡ shift.0 → ⊥) → (k ≡ skill.0) ⊎ (k ≡ skill.0 → ⊥) → slice_index_or more (8 * s + k) 0 ≡ cover (take (n + 1) r) day s k
          go (inl e) (inl f) = at_its_slot s k s_in k_in e f
          go (inl e) (inr g) = elsewhere s k s_in k_in (λ h. g (omega (arith, h, e, slot_is))) (own_by s k ∙ ap (λ b. (shift.0 == s) && b) (ne_eqb skill.0 k (λ h. g (sym h))) ∙ and-false (shift.0 == s))
          go (inr g) f = elsewhere s k s_in k_in (λ h. g (omega (arith, h, slot_is, s_in, k_in, shift_in, skill_in))) (own_by s k ∙ ap (λ b. b && (skill.0 == k)) (ne_eqb shift.0 s (λ h. g (sym h))))

-- a day's table gives what its staffing costs
pub cost_by_table : (c : Meaning) (d : ℕ) (table : List ℕ) (have : ℕ → ℕ → ℕ) → shift_count c ≤ most_shifts → skill_count c ≤ most_skills → IsTable have table
    → staffing_cost_by c d (number_at table) ≡ staffing_cost_by c d have
cost_by_table c d table have shifts skills is =
    sum_same (shift_count c) _ _ (λ s s_in. sum_same (skill_count c) _ _ (λ k k_in. ap (λ n. staffing_weight * (optimum c d s k - n)) (is s k (omega (arith, s_in, shifts)) (omega (arith, k_in, skills)))))

-- and the breaches of its minimums
pub fault_by_table : (c : Meaning) (r : Rows) (d : ℕ) (counts : List ℕ) → AreCovers r d counts → (s k slot : ℕ) → s < 8 → k < 8 → slot ≡ 8 * s + k
    → fault_if (nat_lt (slice_index_or counts slot 0) (minimum c d s k)) (H2 d (shift_at s) (skill_at k) (slice_index_or counts slot 0) (minimum c d s k)) ≡ staffing_fault c r d s k
fault_by_table c r d counts counted s k slot s_in k_in slot_is =
    ap (λ have. fault_if (nat_lt have (minimum c d s k)) (H2 d (shift_at s) (skill_at k) have (minimum c d s k))) (ap (λ i. slice_index_or counts i 0) slot_is ∙ counted s k s_in k_in)
