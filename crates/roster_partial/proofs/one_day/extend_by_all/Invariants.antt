use Rattle.std.proofs.Common.{◌≡◌, ◌+◌, ◌≤◌, length, map, take}
use Rattle.roster_offers.specs.Cheapest.{cheaper, cheapest}
use Rattle.roster_partial.specs.Rows.{best_by, earlier_in, offer_numbered, rows_in}
use Rattle.roster_partial.specs.Searches.{ArePut, best_put, days_after, entry_before, offered}
use Rattle.roster_partial.proofs.one_day.extend_by_all.Given as goal

-- the partial row has been extended by the offers before this one
abbrev pub invariant-offers : goal.invariant-offers
invariant-offers l = record {
  rows : ArePut l.limited l.at l.rows;
  front : earlier_in l.rows l.at.end ≡ earlier_in l.fn.rows l.at.end;
  best : best_put l.limited l.at l.rows ≡ cheaper (best_put l.limited l.at l.fn.rows) (cheapest (best_by (days_after l.limited l.at l.fn.rows) l.at.day (entry_before l.at l.fn.rows l.onward.before)) (take l.next (map (offer_numbered (offered l.limited.completion_bounds.search l.at.day)) l.onward.allowed.now)));
  from : l.fn.meter ≤ l.meter;
  meter : l.meter ≤ l.fn.meter + l.next;
  each : length (rows_in l.rows) + l.fn.meter ≤ length (rows_in l.fn.rows) + l.meter;
}
