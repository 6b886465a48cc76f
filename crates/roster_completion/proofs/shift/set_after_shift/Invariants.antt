use Rattle.std.proofs.Common.{◌+◌}
use Rattle.roster_completion.specs.Lines.{UnderCell}
use Rattle.roster_completion.proofs.Blocks.{AreBlocks}
use Rattle.roster_completion.proofs.shift.set_after_shift.Given as goal

abbrev pub invariant-loop-run : goal.invariant-loop-run
invariant-loop-run l = AreBlocks l.day (λ run q x. UnderCell l.day (l.fn.last.0 + 1) run q x) l.day.shift_runs l.run l.fn.here l.here l.fn.meter l.meter
