-- What a search for a nurse's best row goes over.
use Rattle.std.specs.Prelude.{◌≡◌, ℕ, ◌<◌, List, length}
use Rattle.arrayvec.specs.ArrayVec.{ArrayVec}
use Rattle.roster_instance.specs.Meaning.{Meaning, day_count}
use Rattle.roster_instance.specs.Rosters.{Rows}
use Rattle.roster_offers.specs.declared.offer.Offer.{Offer}
use Rattle.roster_offers.specs.Offers.{shift_offers}
use Rattle.roster_offers.specs.Lists.{offers_on}

-- the days of the case, each with its offers, one for each shift
pub record AreShiftOffers (c : Meaning) (from : ℕ) (r : Rows) (n : ℕ)
    (offers : List (ArrayVec Offer)) : Type 0 where
  pub days : length offers ≡ day_count c
  pub each : (day : ℕ) → day < day_count c → offers_on offers day ≡ shift_offers c from r n day

-- these are a nurse's offers for some first week that isn't frozen
abbrev pub AreOffersOf : Meaning → Rows → ℕ → List (ArrayVec Offer) → Type 0
AreOffersOf c r n offers = (from : ℕ) × AreShiftOffers c from r n offers
