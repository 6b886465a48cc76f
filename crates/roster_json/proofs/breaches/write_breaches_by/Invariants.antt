-- The breaches of the nurses before this one are written.
use Rattle.roster_text.specs.Io.{Writes}
use Rattle.roster_instance.specs.Faults.{below}
use Rattle.roster_json.specs.Breaches.{breaches_text, faults_of}
use Rattle.roster_json.proofs.breaches.write_breaches_by.Given as goal

abbrev pub invariant-loop-nurse : goal.invariant-loop-nurse
invariant-loop-nurse g l = Writes g.W.Write.contents l.initial.out l.out (breaches_text l.case (below l.nurse (faults_of l.case l.roster l.rule)))
