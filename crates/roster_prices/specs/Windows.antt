-- What a nurse is offered on each day within a window of days (our own).
use Rattle.std.specs.Prelude.{ℕ, ◌+◌, ◌/◌, ◌&&◌, max, not, nat_lt, if◌then◌else◌, List}
use Rattle.roster_offers.specs.declared.offer.Offer.{Offer}
use Rattle.roster_slots.specs.Tables.{slot_prices}
use Rattle.roster_prices.specs.declared.window.Window.{Window}
use Rattle.roster_prices.specs.declared.window.WindowTerms.{WindowTerms}
use Rattle.roster_prices.specs.Days.{shift_offers}
use Rattle.roster_prices.specs.Nodes.{price_in}

-- the week before which all is frozen, as it is for a day: a day outside of the window is frozen too
abbrev pub window_from : Window → (from d : ℕ) → ℕ
window_from window from d =
    if not (nat_lt d window.first) && nat_lt d window.end then from else max from (d / 7 + 1)

-- what is offered on a day: outside of the window the given choice alone
abbrev pub window_offers : WindowTerms → (n d : ℕ) → List Offer
window_offers t n d =
    let base = t.base.now in
    shift_offers base.case.now (window_from t.window base.from d) base.given.now
    (price_in base.case.now base.scale (slot_prices base.scale t.dual_prices.now) t.node.now n) n d
