use Rattle.std.proofs.Common.{◌∙◌, ap}
use Rattle.roster_instance.specs.Faults.{first_fault}
use Rattle.roster_rules.specs.HardRules.{successions_before}
use Rattle.roster_costs.proofs.hard.first_succession.Goals as goal

pub returns : goal.returns
returns c = c.first_succession_before.ensures ∙ ap (λ m. first_fault (successions_before c.args.case.now c.args.roster.now m)) c.days.ensures.count
