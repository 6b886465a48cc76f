-- The lines of the weekdays before this one are sent.
use Rattle.std.specs.List.{flat_map, range_with_len}
use Rattle.roster_text.specs.Io.{Sends}
use Rattle.roster_bundle.specs.Canonical.{line_on}
use Rattle.roster_text.proofs.writing.send_nurse.Given as goal

abbrev pub invariant-loop-weekday : goal.invariant-loop-weekday
invariant-loop-weekday g l =
    Sends g.W.Write.contents l.initial.out l.out l.initial.sent l.sent
    (flat_map (line_on (g.S.SolutionView.shown l.view) l.nurse) (range_with_len 0 l.weekday))
