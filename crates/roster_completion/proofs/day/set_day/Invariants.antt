use Rattle.std.proofs.Common.{◌*◌}
use Rattle.roster_completion.proofs.DayLaws.{UnderIndex}
use Rattle.roster_completion.proofs.Blocks.{AreBlocks}
use Rattle.roster_completion.proofs.day.set_day.Given as goal

abbrev pub invariant-loop-digit : goal.invariant-loop-digit
invariant-loop-digit l = AreBlocks l.day (λ digit index x. UnderIndex l.day digit index x) (l.day.runs * l.day.shift_runs) l.digit l.fn.here l.here l.fn.meter l.meter
