-- What is offered to a nurse on a day after prices have changed.
use Rattle.std.specs.Prelude.{◌≡◌, ℕ, ◌+◌, ◌<◌, ◌≤◌, All, Contains, IsSomeAnd, List, Some}
use Rattle.roster_instance.specs.Choices.{shift_of}
use Rattle.roster_instance.specs.Counting.{sum_below}
use Rattle.roster_instance.specs.Meaning.{Meaning, day_count}
use Rattle.roster_offers.specs.declared.offer.Offer.{Offer}
use Rattle.roster_offers.specs.Lists.{best_over}

-- one of the old offers is for the same shift, and the price has risen from there by at least `rise` less
-- `fall`
pub record HasRisen (rise fall : ℕ) (old : List Offer) (offer : Offer) : Type 0 where
  pub before : Offer
  pub among : Contains old before
  pub shift : shift_of before.choice ≡ shift_of offer.choice
  pub price : before.price + rise ≤ offer.price + fall

-- each of the new offers has risen like that
abbrev pub AllHaveRisen : (rise fall : ℕ) → (old new : List Offer) → Type 0
AllHaveRisen rise fall old new = All (HasRisen rise fall old) new

-- the same on each day
abbrev pub DaysHaveRisen : Meaning → (rise fall : ℕ → ℕ) → (old new : ℕ → List Offer) → Type 0
DaysHaveRisen c rise fall old new = (d : ℕ) → d < day_count c → AllHaveRisen (rise d) (fall d) (old d) (new d)

-- if the new offers have a best row, the old ones have one too, and its cost plus all that has risen is at
-- most the new one's plus all that has fallen
abbrev pub BestCostRises : Meaning → ℕ → (rise fall : ℕ → ℕ) → (old new : ℕ → List Offer) → Type 0
BestCostRises c n rise fall old new =
    (cost : ℕ) (offers : List Offer) → best_over c n new ≡ Some (cost, offers)
    → IsSomeAnd (best_over c n old)
    (λ best. best.0 + sum_below (day_count c) rise ≤ cost + sum_below (day_count c) fall)
