use Rattle.std.proofs.Common.{◌≡◌, length}
use Rattle.roster_near.proofs.prices.Prices.step.Given as goal

abbrev pub invariant-loop-at : goal.invariant-loop-at
invariant-loop-at l = record {
  at_hand : length l.self.at_hand.items ≡ length l.initial.self.at_hand.items;
  direction : length l.self.direction.items ≡ length l.initial.self.direction.items;
}
