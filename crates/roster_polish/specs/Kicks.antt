-- What a nurse is offered who is kicked out of her row (our own).
use Rattle.std.specs.Prelude.{◌≡◌, ℕ, ◌+◌, ◌*◌, ◌/◌, ◌<◌, ◌&&◌, min, max, not, nat_lt, if◌then◌else◌, Bool, List, length, slice_index_or}
use Rattle.arrayvec.specs.ArrayVec.{ArrayVec}
use Rattle.roster_instance.specs.declared.choice.Choice.{Choice}
use Rattle.roster_instance.specs.declared.choice.Choice.TheVariants.{Off, Work}
use Rattle.roster_instance.specs.Meaning.{Meaning, day_count}
use Rattle.roster_instance.specs.Rosters.{Rows}
use Rattle.roster_laws.specs.OneRow.{is_offered, price}
use Rattle.roster_offers.specs.declared.offer.Offer.{Offer}
use Rattle.roster_offers.specs.Offers.{cheapest_by_shift, offers_by}
use Rattle.roster_offers.specs.Lists.{most_price, offers_on}
use Rattle.roster_slots.specs.Tables.{slot_prices}
use Rattle.roster_prices.specs.LowerBounds.{price_by}
use Rattle.roster_polish.specs.declared.offers.Kick.{Kick}

-- a kick has a dual price for each slot of the case, and nine numbers for each day
pub record FitsKick (c : Meaning) (kick : Kick) : Type 0 where
  pub dual_prices : kick.dual_prices.now.days ≡ day_count c
  pub dearer : length kick.dearer.now ≡ 9 * day_count c

-- the week before which all is frozen, as it is for a day: a day outside of the open weeks is frozen too
abbrev pub from_on : Kick → ℕ → ℕ
from_on kick d =
    if not (nat_lt (d / 7) kick.first) && nat_lt (d / 7) kick.last then kick.from
    else max kick.from (d / 7 + 1)

abbrev pub kick_offered : Meaning → Rows → ℕ → Kick → ℕ → Choice → Bool
kick_offered c r n kick d choice = is_offered c (from_on kick d) r n d choice

-- the index of a choice among the nine of a day: to be off, then the shifts
abbrev pub shift_index : Choice → ℕ
shift_index Off = 0
shift_index (Work s k) = 1 + s.0

-- the price by dual prices or the true one, plus the points by which the shift is dearer
abbrev pub price_from : Meaning → ℕ → Kick → ℕ → Choice → ℕ → ℕ
price_from c n kick d choice true_price =
    min ((if kick.by_dual_price then price_by c 1 (slot_prices 1 kick.dual_prices.now) n d choice
    else true_price) + slice_index_or kick.dearer.now (9 * d + shift_index choice) 0) most_price

abbrev pub kick_price : Meaning → Rows → ℕ → Kick → ℕ → Choice → ℕ
kick_price c r n kick d choice = price_from c n kick d choice (price c r n d choice)

-- what is offered on a day, one for each shift
abbrev pub kick_offers : Meaning → Rows → ℕ → Kick → ℕ → List Offer
kick_offers c r n kick d = cheapest_by_shift (offers_by c (kick_offered c r n kick) (kick_price c r n kick) d)

-- the offers of all days, a list for each
pub record AreKickOffers (c : Meaning) (r : Rows) (n : ℕ) (kick : Kick)
    (offers : List (ArrayVec Offer)) : Type 0 where
  pub days : length offers ≡ day_count c
  pub each : (day : ℕ) → day < day_count c → offers_on offers day ≡ kick_offers c r n kick day
