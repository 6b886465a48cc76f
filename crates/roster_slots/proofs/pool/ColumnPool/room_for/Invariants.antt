use Rattle.std.proofs.Common.{◌<◌, length}
use Rattle.roster_slots.proofs.pool.ColumnPool.room_for.Given as goal

abbrev pub invariant-loop-at : goal.invariant-loop-at
invariant-loop-at l = l.oldest < length l.self.entries.items
