-- What a nurse is offered on each day by dual prices.
use Rattle.std.specs.Prelude.{◌≡◌, ℕ, ◌<◌, Bool, ◌&&◌, List, length}
use Rattle.arrayvec.specs.ArrayVec.{ArrayVec}
use Rattle.roster_instance.specs.declared.choice.Choice.{Choice}
use Rattle.roster_instance.specs.Meaning.{Meaning, day_count}
use Rattle.roster_instance.specs.Rosters.{Rows}
use Rattle.roster_rules.specs.AllowedRows.{keeps_frozen_day}
use Rattle.roster_rules.specs.HardRules.{may_take}
use Rattle.roster_offers.specs.declared.offer.Offer.{Offer}
use Rattle.roster_offers.specs.Offers.{cheapest_by_shift, offers_by}
use Rattle.roster_offers.specs.Lists.{offers_on}
use Rattle.roster_slots.specs.Slots.{SlotPrices}
use Rattle.roster_prices.specs.LowerBounds.{price_by}

-- the nurse may take the choice, and on a frozen day it is the given one
abbrev pub can_do : Meaning → ℕ → Rows → (n d : ℕ) → Choice → Bool
can_do c from given n d choice = may_take c n d choice && keeps_frozen_day c from given n d choice

-- all that the nurse can do on a day, at prices
abbrev pub priced_offers : Meaning → ℕ → Rows → (ℕ → Choice → ℕ) → (n d : ℕ) → List Offer
priced_offers c from given price n d = offers_by c (can_do c from given n) price d

-- the cheapest for each shift alone
abbrev pub shift_offers : Meaning → ℕ → Rows → (ℕ → Choice → ℕ) → (n d : ℕ) → List Offer
shift_offers c from given price n d = cheapest_by_shift (priced_offers c from given price n d)

-- the offers of all days, a list for each
pub record ArePricedOffers (c : Meaning) (from : ℕ) (given : Rows) (price : ℕ → Choice → ℕ) (n : ℕ)
    (offers : List (ArrayVec Offer)) : Type 0 where
  pub days : length offers ≡ day_count c
  pub each : (day : ℕ) → day < day_count c → offers_on offers day ≡ shift_offers c from given price n day

-- the same by dual prices
abbrev pub shift_offers_by_dual_price : Meaning → ℕ → Rows → (scale : ℕ) → SlotPrices → (n d : ℕ)
    → List Offer
shift_offers_by_dual_price c from given scale w n d = shift_offers c from given (price_by c scale w n) n d

abbrev pub AreDualPricedOffers : Meaning → ℕ → Rows → (scale : ℕ) → SlotPrices → ℕ
    → List (ArrayVec Offer) → Type 0
AreDualPricedOffers c from given scale w n offers =
    ArePricedOffers c from given (price_by c scale w n) n offers
