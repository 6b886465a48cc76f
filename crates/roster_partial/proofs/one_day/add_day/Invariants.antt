use Rattle.std.proofs.Common.{◌≡◌, ◌+◌, ◌-◌, ◌*◌, ◌≤◌, length, take}
use Rattle.roster_offers.specs.Cheapest.{cheapest}
use Rattle.roster_partial.specs.Allowed.{AreListed}
use Rattle.roster_partial.specs.Rows.{best_of, day_in, earlier_in, rows_in}
use Rattle.roster_partial.specs.Searches.{ArePut, best_put, days_on, offered}
use Rattle.roster_partial.proofs.one_day.add_day.Given as goal

-- the partial rows before this one have been extended
abbrev pub invariant-befores : goal.invariant-befores
invariant-befores l = record {
  rows : ArePut l.limited l.at l.rows;
  front : earlier_in l.rows l.at.end ≡ rows_in l.fn.rows;
  best : best_put l.limited l.at l.rows ≡ cheapest (best_of (days_on l.limited l.at.day (rows_in l.fn.rows))) (take (l.before - l.first) (day_in l.fn.rows l.first));
  counted : l.meter ≤ l.fn.meter + (l.before - l.first) * length (offered l.limited.completion_bounds.search l.at.day);
  each : length (rows_in l.rows) + l.fn.meter ≤ l.at.end + l.meter;
  lasts : length l.allowed ≡ 9;
  listed : AreListed l.limited.completion_bounds.search.case.now (offered l.limited.completion_bounds.search l.at.day) l.allowed;
}
