-- The count so far is that of the nurses so far.
use Rattle.std.proofs.Common.{◌≡◌, ◌≤◌, ◌*◌, length}
use Rattle.std.specs.List.{flat_map, range_with_len}
use Rattle.roster_bundle.specs.Canonical.{nurse_assignments}
use Rattle.roster_text.proofs.writing.count_assignments.Given as goal

abbrev pub invariant-loop-nurse : goal.invariant-loop-nurse
invariant-loop-nurse g l = record {
  counted : l.count ≡ length (flat_map (nurse_assignments (g.S.SolutionView.shown l.view)) (range_with_len 0 l.nurse));
  at_most_daily : l.count ≤ 7 * l.nurse;
}
