use Rattle.std.proofs.Common.{◌≡◌, length}
use Rattle.roster_slots.proofs.steps.count_row.Given as goal

abbrev pub invariant-loop-day : goal.invariant-loop-day
invariant-loop-day l = length l.cover ≡ length l.fn.cover
