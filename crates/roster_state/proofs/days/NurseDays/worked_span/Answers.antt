use Rattle.std.proofs.Common.{arith}
use Rattle.roster_state.proofs.days.NurseDays.worked_span.Goals as goal

pub overflow_cast-span : goal.overflow_cast-span
overflow_cast-span c =
    let small = (c.keeps_limits.ensures.small.contracts c.args.self.now.nurse).total in
    omega (arith, c.requires.places, small.least, small.greatest)
