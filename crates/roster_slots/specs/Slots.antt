-- The dual prices of slots, and the least that slots cost by them, both in parts of a point. A slot is a day,
-- a shift and a skill (our own).
use Rattle.std.specs.Prelude.{◌≡◌, ℕ, ◌+◌, ◌-◌, ◌*◌, ◌<◌, ◌≤◌, min, max, Bool, ◌||◌, nat_lt, if◌then◌else◌}
use Rattle.roster_instance.specs.declared.choice.Choice.{Choice}
use Rattle.roster_instance.specs.declared.choice.Choice.TheVariants.{Off, Work}
use Rattle.roster_instance.specs.Counting.{sum_below}
use Rattle.roster_instance.specs.Limits.{most_small}
use Rattle.roster_instance.specs.Meaning.{Meaning, day_count, minimum, optimum, shift_count, skill_count}
use Rattle.roster_rules.specs.Weights.{staffing_weight}
use Rattle.roster_offers.specs.Lists.{most_scale}

-- ---- dual prices: the parts of a point that each slot, by day, shift and skill, pays to a nurse who works
-- there

abbrev pub SlotPrices : Type 0
SlotPrices = (day shift skill : ℕ) → ℕ

-- the greatest, in points
abbrev pub most_dual_price : ℕ
most_dual_price = 200000

-- no dual price is above the greatest
abbrev pub AreDualPrices : (scale : ℕ) → SlotPrices → Type 0
AreDualPrices scale w = (d s k : ℕ) → w d s k ≤ scale * most_dual_price

-- what a nurse earns on a day: the dual price of her slot
abbrev pub choice_dual_price : SlotPrices → ℕ → Choice → ℕ
choice_dual_price w d Off = 0
choice_dual_price w d (Work s k) = w d s.0 k.0

-- ---- the least that a slot costs

-- what a slot costs with this many nurses: the penalty for those short of the optimum, and the dual price of
-- each
abbrev pub slot_cost : Meaning → (scale : ℕ) → SlotPrices → (d s k : ℕ) → ℕ → ℕ
slot_cost c scale w d s k nurses =
    scale * (staffing_weight * (optimum c d s k - nurses)) + w d s k * nurses

-- by the limits of a case that is at most 199,829,970 points, 25,578,236,160 parts at the greatest scale
abbrev pub most_slot_cost : ℕ
most_slot_cost = most_scale * ((staffing_weight + most_dual_price) * most_small)

-- with the minimum or more, a slot costs least at the minimum, or at the optimum if that is more
abbrev pub slot_bound : Meaning → (scale : ℕ) → SlotPrices → (d s k : ℕ) → ℕ
slot_bound c scale w d s k =
    min (slot_cost c scale w d s k (minimum c d s k))
    (slot_cost c scale w d s k (max (minimum c d s k) (optimum c d s k)))

-- the least of all slots together
abbrev pub slots_bound : Meaning → (scale : ℕ) → SlotPrices → ℕ
slots_bound c scale w =
    sum_below (day_count c)
    (λ d. sum_below (shift_count c) (λ s. sum_below (skill_count c) (slot_bound c scale w d s)))

-- ---- dual prices to begin with

-- a slot asks for nurses: its minimum or its optimum is above 0
abbrev pub asks_for_nurses : Meaning → (d s k : ℕ) → Bool
asks_for_nurses c d s k = nat_lt 0 (minimum c d s k) || nat_lt 0 (optimum c d s k)

-- each such slot has the same dual price, and the others have 0
abbrev pub even_dual_prices : Meaning → ℕ → SlotPrices
even_dual_prices c dual_price d s k = if asks_for_nurses c d s k then dual_price else 0

-- two dual prices agree at each slot of the case
abbrev pub SameDualPrices : Meaning → SlotPrices → SlotPrices → Type 0
SameDualPrices c w v =
    (d s k : ℕ) → d < day_count c → s < shift_count c → k < skill_count c → w d s k ≡ v d s k
