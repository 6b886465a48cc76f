use Rattle.std.proofs.Common.{◌≤◌, ◌<◌, arith, subst, sym}
use Rattle.roster_rules.specs.Penalties.{costs_of, total_cost}
use Rattle.roster_rules.specs.PenaltyBounds.{most_staffing, penalty_limit}
use Rattle.roster_rules.specs.declared.penalties.Costs.{Costs}
use Rattle.roster_rules.proofs.Bounds.{penalty-within, staffing_cost-within}
use Rattle.roster_costs.proofs.costing.costs_with.Goals as goal

pub returns-clause-within : goal.returns-clause-within
returns-clause-within c =
    let keeps = c.keeps_limits.ensures in
    subst (λ (k : Costs). total_cost k < penalty_limit) (sym c.by_rule.ensures) (penalty-within c.args.case.now c.args.roster.now keeps.small keeps.shifts keeps.skills keeps.weeks keeps.nurses c.requires.fitting)

pub returns-clause-staffing : goal.returns-clause-staffing
unfolding costs_of
returns-clause-staffing c =
    let keeps = c.keeps_limits.ensures in
    subst (λ (k : Costs). k.s1 ≤ most_staffing) (sym c.by_rule.ensures) (staffing_cost-within c.args.case.now c.args.roster.now keeps.small keeps.shifts keeps.skills (omega (arith, keeps.weeks)))
