use Rattle.std.proofs.Common.{◌≡◌, ◌+◌, ◌<◌, ◌≤◌, ℕ, [], length}
use Rattle.std.specs.List.{All}
use Rattle.roster_rules.specs.Prefix.{summary_of}
use Rattle.roster_offers.specs.Lists.{offers_on}
use Rattle.roster_tables.specs.Counts.{states_on}
use Rattle.roster_tables.specs.Tables.{LeadsOn, IsReachable}
use Rattle.roster_tables.specs.Search.{boxes_on}
use Rattle.roster_tables.proofs.reachable.find_boxes.Given as goal

abbrev pub invariant-loop-day : goal.invariant-loop-day
invariant-loop-day l = record {
  start : IsReachable l.search.case.now l.search.nurse (boxes_on l.boxes.days 0) (summary_of l.search.case.now l.search.nurse []);
  first : states_on l.search.case.now l.search.nurse (boxes_on l.boxes.days 0) ≤ 1;
  lead : (day : ℕ) → day < l.day → All (LeadsOn l.search.case.now l.search.nurse day (boxes_on l.boxes.days day) (boxes_on l.boxes.days (day + 1))) (offers_on l.search.offers.now day);
  length : length l.boxes.days ≡ length l.fn.boxes.days;
}
