use Rattle.std.proofs.Common.{◌≡◌, ◌≢◌, ℕ, ◌<◌}
use Rattle.roster_slots.specs.ColumnPool.{pooled_slot}
use Rattle.roster_bound.specs.PooledUses.{IsUsed}
use Rattle.roster_bound.proofs.choosing.less_used.Given as goal

abbrev pub invariant-loop-at : goal.invariant-loop-at
invariant-loop-at l = record {
  with_none : l.with ≡ 0 → (k : ℕ) → k < l.at → IsUsed l.uses l.nurse k → pooled_slot l.pool k l.on.day ≢ l.on.slot;
  without_none : l.without ≡ 0 → (k : ℕ) → k < l.at → IsUsed l.uses l.nurse k → pooled_slot l.pool k l.on.day ≡ l.on.slot;
}
