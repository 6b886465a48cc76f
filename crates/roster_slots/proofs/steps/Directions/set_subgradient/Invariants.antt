use Rattle.std.proofs.Common.{◌≡◌, length}
use Rattle.roster_slots.proofs.steps.Directions.set_subgradient.Given as goal

abbrev pub invariant-loop-slot : goal.invariant-loop-slot
invariant-loop-slot l = record {
  subgradient : length l.self.subgradient.items ≡ length l.fn.self.subgradient.items;
  direction : l.self.direction ≡ l.fn.self.direction;
}
