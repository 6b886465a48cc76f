-- What the last search for each nurse says of the next one: at what prices it went over the shifts, and what
-- it found.
use Rattle.std.specs.Prelude.{◌≡◌, ◌≢◌, ℕ, ◌+◌, ◌-◌, ◌*◌, ◌<◌, ◌≤◌, ◌==◌, ◌&&◌, Bool, Contains, IfSome, List, [], fold, max, Option, Some, None, length, slice_index, slice_index_or, vec_capacity}
use Rattle.roster_instance.specs.declared.choice.Shift.{Shift}
use Rattle.roster_instance.specs.Choices.{shift_of}
use Rattle.roster_instance.specs.Limits.{most_shifts}
use Rattle.roster_instance.specs.Meaning.{Meaning, day_count, nurse_count}
use Rattle.roster_instance.specs.Rosters.{Row}
use Rattle.roster_offers.specs.declared.offer.Offer.{Offer}
use Rattle.roster_offers.specs.Lists.{IsFound, best_over_at}
use Rattle.roster_row.specs.declared.last.LastSearches.{LastSearches}

-- the price of what isn't offered
abbrev pub not_offered : ℕ
not_offered = 4294967295

-- the index of a shift's price among those of a day: the day off comes first
abbrev pub price_index : Option Shift → ℕ
price_index None = 0
price_index (Some shift) = shift.0 + 1

-- the price is that of an offer for the shift with this index
pub record IsPriceOf (offers : List Offer) (index price : ℕ) : Type 0 where
  pub offer : Offer
  pub among : Contains offers offer
  pub at : price_index (shift_of offer.choice) ≡ index
  pub is : offer.price ≡ price

-- so is each of these prices that isn't missing
abbrev pub ArePrices : List Offer → List ℕ → Type 0
ArePrices offers prices =
    (index : ℕ) → index < 1 + most_shifts → slice_index prices index ≢ not_offered
    → IsPriceOf offers index (slice_index prices index)

-- there is a price for the offer's shift, and the offer's own is higher than it by at least `rise` less
-- `fall`
pub record IsDearer (prices : List ℕ) (rise fall : ℕ) (offer : Offer) : Type 0 where
  pub index : price_index (shift_of offer.choice) < 1 + most_shifts
  pub offered : slice_index prices (price_index (shift_of offer.choice)) ≢ not_offered
  pub price : slice_index prices (price_index (shift_of offer.choice)) + rise ≤ offer.price + fall

-- how much more the present choice has become dearer since these prices than an offer of the day
abbrev pub gain_over : List ℕ → (present offer : Offer) → ℕ
gain_over prices present offer =
    (present.price + slice_index prices (price_index (shift_of offer.choice))) -
    (slice_index prices (price_index (shift_of present.choice)) + offer.price)

-- the greatest gain over these offers
abbrev pub most_gain : List ℕ → Offer → List Offer → ℕ
most_gain prices present offers = fold (λ most offer. max most (gain_over prices present offer)) 0 offers

-- ---- what is recorded of all nurses

-- the prices of a nurse's day
abbrev pub prices_on : Meaning → LastSearches → (n d : ℕ) → List ℕ
prices_on c last n d = slice_index_or last.prices.items (n * day_count c + d) []

-- a search for the nurse at a scale, over offers at these prices, found a row at this cost
pub record WasSearchedAt (c : Meaning) (scale : ℕ) (last : LastSearches) (n cost : ℕ) : Type 0 where
  pub offers : ℕ → List Offer
  pub row : List Offer
  pub prices : (d : ℕ) → d < day_count c → ArePrices (offers d) (prices_on c last n d)
  pub found : best_over_at c n scale offers ≡ Some (cost, row)

-- for how many days' prices and for how many costs there is capacity without an allocation
pub record LastCapacity : Type 0 where
  pub prices : ℕ
  pub costs : ℕ

abbrev pub last_capacity : LastSearches → LastCapacity
last_capacity last = record { prices = vec_capacity last.prices; costs = vec_capacity last.costs }

-- there is one cost for each nurse, and prices for each nurse and day
abbrev pub fits_last : Meaning → LastSearches → Bool
fits_last c last =
    (length last.costs.items == nurse_count c) && (length last.prices.items == nurse_count c * day_count c)

-- it has the capacity for the case, and each recorded cost is that of a search at this scale
pub record RecallsSearchesAt (c : Meaning) (scale : ℕ) (last : LastSearches) : Type 0 where
  pub nurses : length last.costs.items ≡ nurse_count c
  pub days : length last.prices.items ≡ nurse_count c * day_count c
  pub searched : (n : ℕ) → n < nurse_count c
      → IfSome (slice_index_or last.costs.items n None) (WasSearchedAt c scale last n)

-- at whatever scale searches are recorded, a search for this nurse that found a row at this cost is, too
abbrev pub AreRemembered : Meaning → (n : ℕ) → (ℕ → List Offer) → (cost : ℕ)
    → (old new : LastSearches) → Type 0
AreRemembered c n offers cost old new =
    (scale : ℕ) → RecallsSearchesAt c scale old → (row : Row)
    → IsFound (best_over_at c n scale offers) cost row → RecallsSearchesAt c scale new

-- the same in whole points
abbrev pub RecallsSearches : Meaning → LastSearches → Type 0
RecallsSearches c = RecallsSearchesAt c 1
