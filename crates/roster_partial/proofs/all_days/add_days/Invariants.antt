use Rattle.std.proofs.Common.{◌≡◌, ◌+◌, ◌*◌, ◌<◌, ◌≤◌, length}
use Rattle.roster_partial.specs.Rates.{most_offers}
use Rattle.roster_partial.specs.Rows.{rows_in}
use Rattle.roster_partial.specs.Searches.{AreOfDay, best_of_day}
use Rattle.roster_partial.proofs.all_days.add_days.Given as goal

abbrev pub invariant-loop-day : goal.invariant-loop-day
invariant-loop-day l = record {
  rows : AreOfDay l.limited l.day l.first l.rows;
  best : best_of_day l.limited l.day l.first l.rows ≡ best_of_day l.limited 0 0 l.fn.rows;
  each_day : l.first < length (rows_in l.rows) → l.fn.meter + l.day ≤ l.meter;
  brief : l.meter ≤ l.fn.meter + most_offers * l.first;
  counted : (l.fn.meter ≤ l.meter) × (l.meter ≤ l.last_count);
}
