use Rattle.std.proofs.Common.{◌≡◌, ℕ, ◌<◌}
use Rattle.roster_slots.specs.ColumnPool.{pooled_slot}
use Rattle.roster_bound.specs.PooledUses.{IsUsed}
use Rattle.roster_bound.proofs.choosing.most_even_decision.Given as goal

abbrev pub invariant-loop-at : goal.invariant-loop-at
invariant-loop-at l =
    l.even ≡ 0 → (j k : ℕ) → j < l.at → IsUsed l.uses l.nurse j → IsUsed l.uses l.nurse k
    → pooled_slot l.pool j l.day ≡ pooled_slot l.pool k l.day
