use Rattle.std.proofs.Common.{◌∙◌, ◌+◌, ◌*◌, ◌-◌, sym}
use Rattle.roster_rules.specs.Weights.{assignment_weight, weekend_weight}
use Rattle.roster_state.proofs.StartLaw.{due_at_first}
use Rattle.roster_state.proofs.totals.start_cost.Goals as goal

pub returns-clause-cost : goal.returns-clause-cost
returns-clause-cost c =
    let past = c.requires.past in
    let rules = c.contract_rules-rules.ensures.rules in
    (λ i. assignment_weight * c.saturating_sub-assignments.ensures i + weekend_weight * c.saturating_sub-weekends.ensures i)
    ∙ (λ i. assignment_weight * ((past i).assignments - (rules i).total.greatest) + weekend_weight * ((past i).weekends - (rules i).weekends))
    ∙ sym (due_at_first c.args.case.now c.args.nurse)
