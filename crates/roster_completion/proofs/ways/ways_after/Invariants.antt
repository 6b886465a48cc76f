use Rattle.roster_completion.specs.Lines.{AreWaysTo}
use Rattle.roster_completion.proofs.ways.ways_after.Given as goal

abbrev pub invariant-loop-index : goal.invariant-loop-index
invariant-loop-index l = AreWaysTo l.day l.last l.index l.ways
