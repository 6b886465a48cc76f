-- How dual prices are held.
use Rattle.std.specs.Prelude.{◌≡◌, ℕ, ◌+◌, ◌*◌, ◌/◌, ◌≤◌, All, List, length, slice_index_or}
use Rattle.roster_slots.specs.Slots.{SlotPrices, most_dual_price}

-- how many fine units make a point: dual prices are held in fine units, whatever the scale of a search
abbrev pub fine_per_point : ℕ
fine_per_point = 16384

-- the number of days, and the dual prices in fine units, 64 for each day: on a day, that of shift s and skill
-- k is at index 8 s + k
pub record PriceTable : Type 0 where
  pub days : ℕ
  pub fine : List ℕ

abbrev pub most_fine : ℕ
most_fine = fine_per_point * most_dual_price

-- fine units, rounded to the nearest part of a point
abbrev pub rounded : (scale fine : ℕ) → ℕ
rounded scale fine = (scale * fine + fine_per_point / 2) / fine_per_point

-- the dual prices that a search at this scale is given
abbrev pub slot_prices : (scale : ℕ) → PriceTable → SlotPrices
slot_prices scale t d s k = rounded scale (slice_index_or t.fine (64 * d + 8 * s + k) 0)

-- 64 slots for each day, and no dual price above the greatest
pub record AreHeld (days : ℕ) (fine : List ℕ) : Type 0 where
  pub slots : length fine ≡ 64 * days
  pub within : All (λ x. x ≤ most_fine) fine
