use Rattle.std.proofs.Common.{◌+◌, ◌*◌, ◌≤◌, subst}
use Rattle.roster_slots.specs.Slots.{most_dual_price}
use Rattle.roster_slots.specs.Tables.{PriceTable, slot_prices}
use Rattle.roster_slots.proofs.PriceLemmas.{price_within}
use Rattle.roster_slots.proofs.dual_prices.DualPrices.keep_most.Goals as goal

pub returns : goal.returns
returns c scale d s k =
    subst (λ (t : PriceTable). slot_prices scale t d s k ≤ scale * most_dual_price) c.self.view_is (price_within scale c.self.inside.fine.items (64 * d + 8 * s + k) c.self.invariant.within)
