use Rattle.std.proofs.Common.{◌<◌}
use Rattle.roster_near.proofs.draws.Draws.next_kind.Given as goal

abbrev pub invariant-loop-kind : goal.invariant-loop-kind
invariant-loop-kind l = l.next < 4
