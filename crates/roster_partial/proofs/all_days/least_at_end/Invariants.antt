use Rattle.std.proofs.Common.{◌≡◌, ◌-◌, ◌<◌, ◌≤◌, IfSome, take}
use Rattle.std.specs.Prelude.{option_map}
use Rattle.roster_offers.specs.Cheapest.{cheapest}
use Rattle.roster_partial.specs.Rows.{best_of, count_in, day_in, rows_in}
use Rattle.roster_partial.specs.Searches.{days_in, days_on, offers_of_last}
use Rattle.roster_partial.proofs.all_days.least_at_end.Given as goal

abbrev pub invariant-loop-index : goal.invariant-loop-index
invariant-loop-index l = record {
  best : cheapest (best_of (days_on l.limited (days_in l.limited.completion_bounds.search) (rows_in l.rows))) (take (l.index - l.first) (day_in l.rows l.first)) ≡ option_map (λ least. (least.0, offers_of_last l.limited.completion_bounds.search l.rows least.1)) l.least;
  inside : IfSome l.least (λ least. (l.first ≤ least.1) × (least.1 < count_in l.rows));
}
