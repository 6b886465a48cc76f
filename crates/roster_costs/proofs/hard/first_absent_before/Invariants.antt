use Rattle.std.proofs.Common.{◌≡◌, []}
use Rattle.roster_instance.specs.Faults.{below}
use Rattle.roster_rules.specs.HardRules.{absence_fault}
use Rattle.roster_costs.proofs.hard.first_absent_before.Given as goal

abbrev pub invariant-loop-nurse : goal.invariant-loop-nurse
invariant-loop-nurse l = below l.nurse (λ n. below l.days (λ d. absence_fault l.case l.roster n d)) ≡ []
