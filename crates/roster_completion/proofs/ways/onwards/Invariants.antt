use Rattle.roster_completion.specs.Lines.{AreOnwardTo}
use Rattle.roster_completion.proofs.ways.onwards.Given as goal

abbrev pub invariant-loop-index : goal.invariant-loop-index
invariant-loop-index l = AreOnwardTo l.day l.index l.all
