use Rattle.std.proofs.Common.{arith}
use Rattle.roster_instance.specs.Choices.{days_of, shift_of}
use Rattle.roster_rules.proofs.Bounds.{parts-within}
use Rattle.std.proofs.lemmas.List.{length-map}
use Rattle.roster_costs.proofs.costing.nurse_cost.Goals as goal

pub overflow_cast-result : goal.overflow_cast-result
overflow_cast-result c =
    let days = days_of c.args.row.now in
    omega (
      arith,
      parts-within c.args.case.now c.args.nurse days c.keeps_limits.ensures.small (omega (arith, length-map c.args.row.now shift_of, c.requires.days, c.keeps_limits.ensures.weeks)),
      c.working_run_cost.ensures.cost,
      c.shift_run_cost.ensures.cost,
      c.free_run_cost.ensures.cost,
      c.off_request_cost.ensures.cost,
      c.split_cost.ensures.cost,
      c.totals_cost.ensures.cost,
      c.weekends_cost.ensures.cost,
      c.wish_cost.ensures.cost,
      c.keep_cost.ensures.cost,
    )
