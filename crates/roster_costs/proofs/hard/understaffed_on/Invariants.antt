use Rattle.std.proofs.Common.{◌≡◌, []}
use Rattle.roster_instance.specs.Faults.{below}
use Rattle.roster_rules.specs.HardRules.{staffing_fault}
use Rattle.roster_instance.specs.Meaning.{skill_count}
use Rattle.roster_costs.proofs.hard.understaffed_on.Given as goal

abbrev pub invariant-loop-shift : goal.invariant-loop-shift
invariant-loop-shift l = below l.shift (λ s. below (skill_count l.case) (λ k. staffing_fault l.case l.roster l.day s k)) ≡ []

abbrev pub invariant-loop-skill : goal.invariant-loop-skill
invariant-loop-skill l = below l.skill (λ k. staffing_fault l.case l.roster l.day l.shift k) ≡ []
