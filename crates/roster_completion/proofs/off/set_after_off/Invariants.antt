use Rattle.roster_completion.specs.Lines.{UnderCell}
use Rattle.roster_completion.proofs.Blocks.{AreBlocks}
use Rattle.roster_completion.proofs.off.set_after_off.Given as goal

abbrev pub invariant-loop-run : goal.invariant-loop-run
invariant-loop-run l = AreBlocks l.day (λ run q x. UnderCell l.day 0 run q x) l.day.shift_runs l.run l.fn.here l.here l.fn.meter l.meter
