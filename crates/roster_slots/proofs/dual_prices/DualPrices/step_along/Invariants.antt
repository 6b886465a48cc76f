use Rattle.roster_slots.specs.Tables.{AreHeld}
use Rattle.roster_slots.proofs.dual_prices.DualPrices.step_along.Given as goal

abbrev pub invariant-loop-slot : goal.invariant-loop-slot
invariant-loop-slot l = AreHeld l.self-inside.days l.self-inside.fine.items
