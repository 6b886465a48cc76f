-- The row is replaced in the counts of one more day, and the change of the shortfall is updated.
use Rattle.std.proofs.Common.{◌≡◌, ◌∙◌, ◌+◌, ◌-◌, ◌*◌, ◌<◌, ◌≤◌, ◌⊎◌, ℕ, suc, inl, inr, ap, arith, subst, sym, List, length, slice_index_or, slice_set}
use Rattle.std.proofs.lemmas.Bool.{cases_eq}
use Rattle.std.proofs.lemmas.List.{get_or-set_other, get_or-set_same}
use Rattle.roster_instance.specs.declared.choice.Choice.{Choice}
use Rattle.roster_instance.specs.Counting.{sum_below}
use Rattle.roster_instance.specs.Limits.{most_shifts, most_skills, most_small}
use Rattle.roster_instance.specs.Meaning.{Meaning, optimum, shift_count, skill_count}
use Rattle.roster_instance.specs.Small.{HasSmallNumbers}
use Rattle.roster_instance.specs.Rosters.{Row, Rows, choice_on, cover, row_of, with_row}
use Rattle.roster_rules.specs.Covers.{AreCovers, IsTable}
use Rattle.roster_rules.proofs.RunBounds.{sum_within}
use Rattle.roster_laws.specs.OneRow.{others}
use Rattle.roster_laws.specs.Staffing.{shortfall, with_choice}
use Rattle.roster_case.specs.declared.counts.DayCounts.{DayCounts}
use Rattle.roster_case.specs.Held.{IsDay, no_day}
use Rattle.roster_case.proofs.DayTableLemmas.{cover-parts}
use Rattle.roster_laws.proofs.OneRow.{cover-with_row}

-- a bound for the shortfall of a day
pub shortfall_within : (c : Meaning) (d : ℕ) (have : ℕ → ℕ → ℕ) → HasSmallNumbers c → shift_count c ≤ most_shifts → skill_count c ≤ most_skills → shortfall c (optimum c d) have ≤ most_shifts * most_skills * most_small
shortfall_within c d have small shifts skills = omega (arith, sum_within (shift_count c) (most_skills * most_small) of_shift (λ s h. shift s))
  where
    missing_at : ℕ → ℕ → ℕ
    missing_at s k = optimum c d s k - have s k

    of_shift : ℕ → ℕ
    of_shift s = sum_below (skill_count c) (missing_at s)

    slot : (s k : ℕ) → missing_at s k ≤ most_small
    slot s k = omega (arith, (small.needs d s k).optimum)

    shift : (s : ℕ) → of_shift s ≤ most_skills * most_small
    shift s = omega (arith, sum_within (skill_count c) most_small (missing_at s) (λ k h. slot s k))

module _ (r : Rows) (n : ℕ) (within : n < length r) (row : Row) (day : ℕ) (old new : Choice) (old_is : old ≡ choice_on (row_of r n) day) (new_is : new ≡ choice_on row day) where
  cover-old : (s k : ℕ) → cover r day s k ≡ with_choice (others r n day) old s k
  cover-old s k = cover-parts r n within day s k ∙ ap (λ own. with_choice (others r n day) own s k) (sym old_is)

  cover-new : (s k : ℕ) → cover (with_row r n row) day s k ≡ with_choice (others r n day) new s k
  cover-new s k = cover-with_row r n within row day s k ∙ ap (λ own. with_choice (others r n day) own s k) (sym new_is)

  module _ (was : List ℕ) (covered : AreCovers r day was) where
    own_table : IsTable (with_choice (others r n day) old) was
    own_table s k s_in k_in = covered s k s_in k_in ∙ cover-old s k

    -- the shortfall of the day
    module _ (c : Meaning) (fewer more : ℕ) (step : (have : ℕ → ℕ → ℕ) → IsTable (with_choice have old) was → shortfall c (optimum c day) (with_choice have new) + fewer ≡ shortfall c (optimum c day) (with_choice have old) + more) where
      abbrev shortfall_new : ℕ → ℕ
      shortfall_new d = shortfall c (optimum c d) (cover (with_row r n row) d)

      abbrev shortfall_old : ℕ → ℕ
      shortfall_old d = shortfall c (optimum c d) (cover r d)

      shortfall_here : shortfall_new day + fewer ≡ shortfall_old day + more
      shortfall_here =
          let new_by : shortfall_new day ≡ shortfall c (optimum c day) (with_choice (others r n day) new) = λ i. shortfall c (optimum c day) (λ s k. cover-new s k i) in
          let old_by : shortfall_old day ≡ shortfall c (optimum c day) (with_choice (others r n day) old) = λ i. shortfall c (optimum c day) (λ s k. cover-old s k i) in
          omega (arith, step (others r n day) own_table, new_by, old_by)

      pub shortfall_more : (all_fewer all_more : ℕ) → sum_below day shortfall_new + all_fewer ≡ sum_below day shortfall_old + all_more → sum_below (day + 1) shortfall_new + (all_fewer + fewer) ≡ sum_below (day + 1) shortfall_old + (all_more + more)
      shortfall_more all_fewer all_more before =
          let one : day + 1 ≡ suc day = omega arith in
          omega (arith, before, shortfall_here, ap (λ m. sum_below m shortfall_new) one, ap (λ m. sum_below m shortfall_old) one)

      -- the counts of the day
      module _ (counts : DayCounts) (table : (have : ℕ → ℕ → ℕ) → IsTable (with_choice have old) was → IsTable (with_choice have new) counts.covers)
          (before : ℕ) (before_is : before ≡ shortfall_old day) (kept : counts.shortfall ≡ before + more - fewer) where
        new_day : IsDay c (with_row r n row) day counts
        new_day = record {
          covers = λ s k s_in k_in. table (others r n day) own_table s k s_in k_in ∙ sym (cover-new s k);
          is_short = omega (arith, kept, before_is, shortfall_here);
        }

        pub days_more : (days : List DayCounts) → day < length days → ((d : ℕ) → d < day → IsDay c (with_row r n row) d (slice_index_or days d no_day)) → (d : ℕ) → d < day + 1 → IsDay c (with_row r n row) d (slice_index_or (slice_set days day counts) d no_day)
        days_more days inside so_far d h = go (cases_eq d day)
          where
            go : (d ≡ day) ⊎ (d ≡ day → ⊥) → IsDay c (with_row r n row) d (slice_index_or (slice_set days day counts) d no_day)
            go (inl e) = subst (λ j. IsDay c (with_row r n row) j (slice_index_or (slice_set days day counts) j no_day)) (sym e) (subst (IsDay c (with_row r n row) day) (sym (get_or-set_same days day counts no_day inside)) new_day)
            go (inr e) = subst (IsDay c (with_row r n row) d) (sym (get_or-set_other days day d counts no_day e)) (so_far d (omega arith))
