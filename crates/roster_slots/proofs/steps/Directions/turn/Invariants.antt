use Rattle.std.proofs.Common.{◌≡◌, length}
use Rattle.roster_slots.proofs.steps.Directions.turn.Given as goal

abbrev pub invariant-loop-slot : goal.invariant-loop-slot
invariant-loop-slot l = record {
  subgradient : l.self.subgradient ≡ l.fn.self.subgradient;
  direction : length l.self.direction.items ≡ length l.fn.self.direction.items;
}
