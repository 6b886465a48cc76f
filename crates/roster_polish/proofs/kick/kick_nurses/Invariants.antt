use Rattle.roster_polish.specs.Tries.{AreKicked}
use Rattle.roster_polish.proofs.kick.kick_nurses.Given as goal

abbrev pub invariant-loop : goal.invariant-loop
invariant-loop g l = AreKicked l.from l.fn.held l.held l.fn.kicking.searches l.kicking.searches l.fn.space l.space l.fn.meter l.meter
