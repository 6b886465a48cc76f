use Rattle.std.proofs.Common.{◌∙◌, ap}
use Rattle.roster_instance.specs.Faults.{first_fault}
use Rattle.roster_rules.specs.HardRules.{absences_before}
use Rattle.roster_costs.proofs.hard.first_absent.Goals as goal

pub returns : goal.returns
returns c = c.first_absent_before.ensures ∙ ap (λ m. first_fault (absences_before c.args.case.now c.args.roster.now m)) c.days.ensures.count
