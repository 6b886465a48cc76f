use Rattle.std.proofs.Common.{arith}
use Rattle.roster_completion.proofs.Indices.{rest_inside}
use Rattle.roster_completion.proofs.shift.after_shift.Goals as goal

pub bounds-day-first : goal.bounds-day-first
bounds-day-first c = rest_inside c.args.day.now c.min.result 0 (omega (arith, c.min.ensures, c.cap.ensures))
