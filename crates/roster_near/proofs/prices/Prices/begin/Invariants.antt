use Rattle.std.proofs.Common.{◌≡◌, length}
use Rattle.roster_near.proofs.prices.Prices.begin.Given as goal

abbrev pub invariant-loop-at : goal.invariant-loop-at
invariant-loop-at l = length l.self.at_hand.items ≡ length l.initial.self.at_hand.items
