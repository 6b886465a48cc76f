-- A lower bound on the penalty of every roster, by Lagrangian duality. A slot is a day, a shift and a skill.
-- It pays its dual price to each nurse who works there. What the slots pay is what the nurses earn, so this
-- changes no penalty. But now each slot and each nurse has a least cost of its own, and by weak duality no
-- roster costs less than all of these together. Dual prices and least costs are in parts of a point, and the
-- scale says how many parts a point has (our own).
use Rattle.std.specs.Prelude.{◌≡◌, ℕ, ◌+◌, ◌-◌, ◌*◌, ◌/◌, ◌%◌, ◌<◌, ◌≤◌, ◌==◌, Bool, true, ◌&&◌, if◌then◌else◌, List, filter, Option}
use Rattle.std.specs.Option.{option_map_or}
use Rattle.roster_instance.specs.declared.choice.Choice.{Choice}
use Rattle.roster_instance.specs.Choices.{all_choices, all_rows, days_of, shift_of}
use Rattle.roster_instance.specs.Counting.{sum_below}
use Rattle.roster_instance.specs.Meaning.{Meaning, day_count, nurse_count}
use Rattle.roster_instance.specs.Rosters.{Row, Rows, fits_case, is_row_of}
use Rattle.roster_rules.specs.AllowedRows.{first_least, keeps_frozen_days}
use Rattle.roster_rules.specs.HardRules.{keeps_absences, keeps_hard, keeps_skills, keeps_successions}
use Rattle.roster_rules.specs.Penalties.{penalty, request_cost_on}
use Rattle.roster_rules.specs.Weights.{staffing_weight}
use Rattle.roster_slots.specs.Slots.{SlotPrices, choice_dual_price, even_dual_prices, most_dual_price, slots_bound}
use Rattle.roster_laws.specs.FrozenDays.{FrozenDaysStay}
use Rattle.roster_offers.specs.Offers.{row_cost_in}

-- no roster of the case that keeps the hard rules and has the given one's frozen days costs less
abbrev pub IsLowerBound : Meaning → ℕ → Rows → ℕ → Type 0
IsLowerBound c from given bound =
    (r : Rows) → fits_case c r ≡ true → keeps_hard c r ≡ true → FrozenDaysStay c from given r
    → bound ≤ penalty c r

-- the roster's penalty is a lower bound: none of these rosters costs less
abbrev pub IsLeast : Meaning → ℕ → Rows → Rows → Type 0
IsLeast c from given r = IsLowerBound c from given (penalty c r)

-- ---- the least that a nurse's row costs at prices

-- the price of a choice on a day: the greatest dual price less what the nurse earns, plus the requests
abbrev pub price_by : Meaning → (scale : ℕ) → SlotPrices → (n d : ℕ) → Choice → ℕ
price_by c scale w n d choice =
    (scale * most_dual_price - choice_dual_price w d choice) + scale * request_cost_on c n d (shift_of choice)

-- what a row costs its nurse at these prices
abbrev pub row_cost_by : Meaning → (scale : ℕ) → SlotPrices → (n : ℕ) → Row → ℕ
row_cost_by c scale w n row = row_cost_in c n scale (price_by c scale w n) row

-- the nurse has the skills for the row, no absence is worked, no shift of it is forbidden by the one before,
-- and it agrees with the given one on each frozen day
abbrev pub can_work : Meaning → ℕ → Rows → ℕ → Row → Bool
can_work c from given n row =
    keeps_skills c n row (day_count c) && keeps_absences c n row (day_count c)
    && keeps_successions c n (days_of row) (day_count c) && keeps_frozen_days c from given n row

abbrev pub own_rows : Meaning → ℕ → Rows → ℕ → List Row
own_rows c from given n = filter (can_work c from given n) (all_rows (all_choices c) (day_count c))

-- a row that the nurse can work
pub record HasRow (c : Meaning) (from : ℕ) (given : Rows) (n : ℕ) : Type 0 where
  pub row : Row
  pub fits : is_row_of c row ≡ true
  pub works : can_work c from given n row ≡ true

-- each nurse has such a row
abbrev pub HaveRows : Meaning → ℕ → Rows → Type 0
HaveRows c from given = (n : ℕ) → n < nurse_count c → HasRow c from given n

-- the first of her cheapest rows at prices, and its cost
abbrev pub least_row : Meaning → ℕ → Rows → (scale : ℕ) → (ℕ → Choice → ℕ) → (n : ℕ) → Option Row
least_row c from given scale price n = first_least (row_cost_in c n scale price) (own_rows c from given n)

abbrev pub cheapest_cost : Meaning → ℕ → Rows → (scale : ℕ) → (ℕ → Choice → ℕ) → (n : ℕ) → ℕ
cheapest_cost c from given scale price n =
    option_map_or (row_cost_in c n scale price) (least_row c from given scale price n) 0

-- the same by dual prices
abbrev pub row_by_dual_prices : Meaning → ℕ → Rows → (scale : ℕ) → SlotPrices → (n : ℕ) → Option Row
row_by_dual_prices c from given scale w n = least_row c from given scale (price_by c scale w n) n

abbrev pub row_bound : Meaning → ℕ → Rows → (scale : ℕ) → SlotPrices → (n : ℕ) → ℕ
row_bound c from given scale w n = cheapest_cost c from given scale (price_by c scale w n) n

-- ---- slots and nurses together

-- what slots and nurses cost at least, less the greatest dual price, which is in the price of each day
abbrev pub lagrangian_with : Meaning → (scale : ℕ) → SlotPrices → (ℕ → ℕ) → ℕ
lagrangian_with c scale w bound =
    slots_bound c scale w + sum_below (nurse_count c) bound
    - nurse_count c * (day_count c * (scale * most_dual_price))

abbrev pub lagrangian_bound : Meaning → ℕ → Rows → (scale : ℕ) → SlotPrices → ℕ
lagrangian_bound c from given scale w = lagrangian_with c scale w (row_bound c from given scale w)

-- parts, rounded up to whole points
abbrev pub in_points : (scale parts : ℕ) → ℕ
in_points scale parts = (parts + (scale - 1)) / scale

-- the next multiple of 5, which each penalty is, unless a roster is kept at a number of points that isn't one
abbrev pub rounded_up : Meaning → ℕ → ℕ
rounded_up c n = if c.keep % 5 == 0 then 5 * ((n + 4) / 5) else n

unfoldable pub bound_by : Meaning → ℕ → Rows → (scale : ℕ) → SlotPrices → ℕ
bound_by c from given scale w = rounded_up c (in_points scale (lagrangian_bound c from given scale w))

-- ---- the dual prices of the first round

-- as much as a missing nurse costs
abbrev pub first_dual_prices : Meaning → (scale : ℕ) → SlotPrices
first_dual_prices c scale = even_dual_prices c (scale * staffing_weight)

-- the bound of the first round: as these are whole points, it is the same at each scale
abbrev pub first_bound : Meaning → ℕ → Rows → ℕ
first_bound c from given = bound_by c from given 1 (first_dual_prices c 1)
