-- A report of `bound` holds some lower bounds.
use Rattle.std.proofs.Common.{◌≤◌, [], ◌∷◌, ℕ, All, List, arith, refl}
use Rattle.std.proofs.lemmas.List.Elements.{All-head, All-tail}
use Rattle.roster_instance.specs.Limits.{most_weeks}
use Rattle.roster_instance.specs.Meaning.{Meaning, week_count}
use Rattle.roster_instance.specs.Rosters.{Rows}
use Rattle.roster_bound.specs.declared.effort.Effort.{Effort}
use Rattle.roster_bound.specs.BoundLogs.{BoundLine, IsBoundLog, last_line, no_line}
use Rattle.roster_bound.specs.Rounds.{AreLinesOfRounds}
use Rattle.roster_bound.proofs.RoundLaws.{some_log}
use Rattle.roster_offers.proofs.ScaleLaws.{one_is_scale}
use Rattle.roster_prices.specs.LowerBounds.{IsLowerBound}
use Rattle.roster_answers.specs.Answer.{IsBoundReport, Report, bound_report}

module _ (effort : Effort) (from : ℕ) (c : Meaning) (r : Rows) where
  IsBound : BoundLine → Type 0
  IsBound x = IsLowerBound c from r x.bound

  last_is_bound : (before : BoundLine) (lines : List BoundLine) → IsBound before → All IsBound lines → IsBound (last_line before lines)
  last_is_bound before [] first all = first
  last_is_bound before (x ∷ xs) first all = last_is_bound x xs (All-head IsBound x xs all) (All-tail IsBound x xs all)

  pub of_bounds : (lines : List BoundLine) → IsBoundLog c from r effort lines → (week_count c ≤ most_weeks → AreLinesOfRounds c from r effort.rounds lines) → IsBoundReport effort from c r (bound_report lines c r)
  unfolding IsBound
  of_bounds lines is_log rounds = record { lines = lines; is_log = is_log; below = last_is_bound no_line lines (λ other fits keeps stays. omega arith) is_log.bounds; rounds = rounds; is = refl }

  -- the rounds of some lower bounds, for a case within the limits
  pub some_report_of_bounds : (p : Report) × IsBoundReport effort from c r p
  some_report_of_bounds = let some = some_log c from r effort in (bound_report some.0 c r, of_bounds some.0 some.1 (λ weeks. some.2 (one_is_scale c weeks)))
