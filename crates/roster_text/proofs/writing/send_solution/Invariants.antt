-- The heading and the lines of the nurses before this one are sent.
use Rattle.std.proofs.Common.{◌++◌}
use Rattle.std.specs.List.{flat_map, range_with_len}
use Rattle.roster_text.specs.Io.{Sends}
use Rattle.roster_bundle.specs.Canonical.{heading, nurse_lines}
use Rattle.roster_text.proofs.writing.send_solution.Given as goal

abbrev pub invariant-loop-nurse : goal.invariant-loop-nurse
invariant-loop-nurse g l =
    let shown = g.S.SolutionView.shown l.view in
    Sends g.W.Write.contents l.fn.out l.out l.before l.sent (heading shown ++ flat_map (nurse_lines shown) (range_with_len 0 l.nurse))
