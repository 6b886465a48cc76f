use Rattle.std.proofs.Common.{◌≡◌, []}
use Rattle.roster_instance.specs.Faults.{below}
use Rattle.roster_rules.specs.HardRules.{staffing_fault}
use Rattle.roster_instance.specs.Meaning.{shift_count, skill_count}
use Rattle.roster_costs.proofs.hard.first_understaffed_before.Given as goal

abbrev pub invariant-loop-day : goal.invariant-loop-day
invariant-loop-day l = below l.day (λ d. below (shift_count l.case) (λ s. below (skill_count l.case) (λ k. staffing_fault l.case l.roster d s k))) ≡ []
