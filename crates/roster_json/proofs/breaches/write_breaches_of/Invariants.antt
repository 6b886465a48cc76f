-- The breaches on the days before this one are written.
use Rattle.roster_text.specs.Io.{Writes}
use Rattle.roster_instance.specs.Faults.{below}
use Rattle.roster_json.specs.Breaches.{breaches_text, fault_on}
use Rattle.roster_json.proofs.breaches.write_breaches_of.Given as goal

abbrev pub invariant-loop-day : goal.invariant-loop-day
invariant-loop-day g l = Writes g.W.Write.contents l.initial.out l.out (breaches_text l.case (below l.day (fault_on l.case l.roster l.rule l.nurse)))
