-- The count so far is that of the weekdays so far.
use Rattle.std.proofs.Common.{◌≡◌, ◌≤◌, length}
use Rattle.std.specs.List.{filter_map, range_with_len}
use Rattle.roster_bundle.specs.Canonical.{assignment_on}
use Rattle.roster_text.proofs.writing.count_of_nurse.Given as goal

abbrev pub invariant-loop-weekday : goal.invariant-loop-weekday
invariant-loop-weekday g l = record {
  counted : l.count ≡ length (filter_map (assignment_on (g.S.SolutionView.shown l.view) l.nurse) (range_with_len 0 l.weekday));
  at_most_daily : l.count ≤ l.weekday;
}
