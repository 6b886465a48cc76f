-- If no week has the section of fixed days, no day of a nurse is fixed, and the frozen days are those of
-- whole weeks.
use Rattle.std.proofs.Common.{◌≡◌, ◌∙◌, ◌/◌, ◌*◌, ◌+◌, ◌%◌, ℕ, zero, suc, false, not, ap, refl, List, [], ◌∷◌, ◌&&◌, ◌||◌, filter, map, nat_lt, slice_index_or}
use Rattle.std.proofs.Math.Bool.{or-false}
use Rattle.std.specs.List.{All}
use Rattle.std.proofs.lemmas.List.Elements.{All-head, All-tail}
use Rattle.roster_bundle.specs.declared.bundle.Bundle.{Bundle}
use Rattle.roster_bundle.specs.declared.bundle.WeekData.{WeekData}
use Rattle.roster_instance.specs.Bundles.{meaning_of, week_meant}
use Rattle.roster_instance.specs.Choices.{all_choices, all_rows, same_choice}
use Rattle.roster_instance.specs.Meaning.{Meaning, day_count, no_week}
use Rattle.roster_instance.specs.Names.{nurse_names, shift_names, skill_names}
use Rattle.roster_instance.specs.Rosters.{Rows, choice_on, row_of, with_row}
use Rattle.roster_rules.specs.AllowedRows.{allowed_rows, is_frozen, keeps_frozen_day}
use Rattle.roster_rules.specs.HardRules.{keeps_hard}
use Rattle.roster_laws.specs.FixedDays.{FixesNothing, ListsNoFixedDays, NothingIsFixed, rows_by_weeks}
use Rattle.roster_laws.proofs.Below.{all_same}
use Rattle.roster_laws.proofs.NobodyAbsent.{lineless}

module _ (source : List ℕ) (shifts skills nurses : List (List ℕ)) where
  in_week : (weeks : List WeekData) → All FixesNothing weeks → (week p : ℕ) → slice_index_or (slice_index_or (map (week_meant source shifts skills nurses) weeks) week no_week).fixed p false ≡ false
  in_week [] none week p = refl
  in_week (w ∷ ws) none zero p = lineless source shifts skills nurses w.fixed_days (All-head FixesNothing w ws none) p
  in_week (w ∷ ws) none (suc week) p = in_week ws (All-tail FixesNothing w ws none) week p

pub nothing_is_fixed : (source : List ℕ) (b : Bundle) → ListsNoFixedDays b → NothingIsFixed (meaning_of source b)
unfolding meaning_of
nothing_is_fixed source b none n d = in_week source (shift_names source b) (skill_names source b) (nurse_names source b) b.week_data none (d / 7) (7 * n + d % 7)

module _ (c : Meaning) (nothing : NothingIsFixed c) where
  pub frozen_by_weeks : (from n d : ℕ) → is_frozen c from n d ≡ nat_lt (d / 7) from
  frozen_by_weeks from n d = ap (λ b. nat_lt (d / 7) from || b) (nothing n d) ∙ or-false (nat_lt (d / 7) from)

  pub allowed_by_weeks : (from : ℕ) (r : Rows) (n : ℕ) → allowed_rows c from r n ≡ rows_by_weeks c from r n
  allowed_by_weeks from r n =
      λ i. filter (λ row. keeps_hard c (with_row r n row)
      && (all_same (day_count c) (λ d. keeps_frozen_day c from r n d (choice_on row d)) (λ d. not (nat_lt (d / 7) from) || same_choice (choice_on row d) (choice_on (row_of r n) d))
      (λ d h. ap (λ b. not b || same_choice (choice_on row d) (choice_on (row_of r n) d)) (frozen_by_weeks from n d))) i) (all_rows (all_choices c) (day_count c))
