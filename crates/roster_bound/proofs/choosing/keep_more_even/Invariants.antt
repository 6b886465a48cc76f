use Rattle.std.proofs.Common.{◌≤◌}
use Rattle.roster_bound.proofs.choosing.keep_more_even.Given as goal

abbrev pub invariant-loop-at : goal.invariant-loop-at
invariant-loop-at l = l.least ≤ l.at
