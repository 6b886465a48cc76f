use Rattle.std.proofs.Common.{arith}
use Rattle.roster_rules.proofs.Bounds.{staffing_cost-within}
use Rattle.roster_case.proofs.counts.Counts.replace_row.Goals as goal

pub overflow_add-self : goal.overflow_add-self
overflow_add-self c =
    let limits = c.keeps_limits.ensures in
    omega (arith, c.requires.counts.staffing, c.recount-change.ensures.more, staffing_cost-within c.args.case.now c.args.roster.now limits.small limits.shifts limits.skills (omega (arith, limits.weeks)))
