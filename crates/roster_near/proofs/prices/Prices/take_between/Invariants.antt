use Rattle.std.proofs.Common.{◌≡◌, length}
use Rattle.roster_near.proofs.prices.Prices.take_between.Given as goal

abbrev pub invariant-loop-at : goal.invariant-loop-at
invariant-loop-at l = record {
  at_hand : length l.self.at_hand.items ≡ length l.initial.self.at_hand.items;
  best : length l.self.best.items ≡ length l.initial.self.best.items;
  top : length l.self.top.items ≡ length l.initial.self.top.items;
}
