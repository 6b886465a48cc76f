use Rattle.std.proofs.Common.{◌≡◌, []}
use Rattle.roster_instance.specs.Faults.{below}
use Rattle.roster_rules.specs.HardRules.{absence_fault}
use Rattle.roster_costs.proofs.hard.absent_of.Given as goal

abbrev pub invariant-loop-day : goal.invariant-loop-day
invariant-loop-day l = below l.day (λ d. absence_fault l.case l.roster l.nurse d) ≡ []
