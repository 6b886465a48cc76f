use Rattle.std.proofs.Common.{◌≡◌, ◌<◌, ◌≤◌, ℕ, length}
use Rattle.std.specs.List.{All}
use Rattle.roster_polish.proofs.space.put_in_order.Given as goal

abbrev pub invariant-loop-position : goal.invariant-loop-position
invariant-loop-position l = record {
  count : length l.order ≡ length l.fn.order;
  each : (end : ℕ) → length l.fn.order ≤ end → All (λ n. n < end) l.fn.order → All (λ n. n < end) l.order;
}
