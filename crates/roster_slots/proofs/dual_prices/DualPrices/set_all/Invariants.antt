-- The slots so far are set.
use Rattle.std.proofs.Common.{◌≡◌, ◌*◌, ◌/◌, ◌%◌, ◌<◌, ℕ, get_or}
use Rattle.roster_slots.specs.Tables.{AreHeld, fine_per_point}
use Rattle.roster_slots.specs.Slots.{even_dual_prices}
use Rattle.roster_slots.proofs.dual_prices.DualPrices.set_all.Given as goal

abbrev pub invariant-loop-slot : goal.invariant-loop-slot
invariant-loop-slot l = record {
  held : AreHeld l.self-inside.days l.self-inside.fine.items;
  even : (p : ℕ) → p < l.slot → get_or l.self-inside.fine.items p 0 ≡ fine_per_point * even_dual_prices l.case l.dual_price (p / 64) (p % 64 / 8) (p % 8);
}
