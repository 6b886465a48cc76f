use Rattle.std.proofs.Common.{◌≡◌, []}
use Rattle.roster_instance.specs.Faults.{below}
use Rattle.roster_rules.specs.HardRules.{skill_fault}
use Rattle.roster_costs.proofs.hard.unskilled_of.Given as goal

abbrev pub invariant-loop-day : goal.invariant-loop-day
invariant-loop-day l = below l.day (λ d. skill_fault l.case l.roster l.nurse d) ≡ []
