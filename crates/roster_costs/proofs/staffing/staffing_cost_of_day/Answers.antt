use Rattle.std.proofs.Common.{◌∙◌, ap, arith}
use Rattle.roster_instance.specs.Counting.{sum_below}
use Rattle.roster_instance.specs.Meaning.{skill_count}
use Rattle.roster_rules.specs.Covers.{number_at}
use Rattle.roster_rules.specs.Penalties.{staffing_cost_of_slot}
use Rattle.roster_costs.proofs.CoverLemmas.{cost_by_table}
use Rattle.roster_costs.proofs.staffing.staffing_cost_of_day.Goals as goal

pub returns-clause-cost : goal.returns-clause-cost
returns-clause-cost c = λ have is.
    let case = c.args.case.now in
    c.loop-shift.invariant.cost_is
    ∙ ap (λ m. sum_below m (λ s. sum_below (skill_count case) (staffing_cost_of_slot case c.args.day (number_at c.args.covers.now) s))) (omega arith)
    ∙ cost_by_table case c.args.day c.args.covers.now have (omega arith) (omega arith) is
