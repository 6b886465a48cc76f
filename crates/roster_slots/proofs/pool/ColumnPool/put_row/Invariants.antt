use Rattle.std.proofs.Common.{◌≡◌, length}
use Rattle.roster_slots.proofs.pool.ColumnPool.put_row.Given as goal

abbrev pub invariant-loop-day : goal.invariant-loop-day
invariant-loop-day l = record {
  days : l.self.days ≡ l.fn.self.days;
  entries : l.self.entries ≡ l.fn.self.entries;
  slots : length l.self.slots.items ≡ length l.fn.self.slots.items;
}
