-- The rounds that raise a lower bound, and when no more of them are made (our own).
use Rattle.std.specs.Prelude.{◌≡◌, ℕ, ◌+◌, ◌-◌, ◌*◌, ◌<◌, ◌≤◌, ◌⊎◌, All, List, [], ◌∷◌, ◌++◌, if◌then◌else◌, length, max, min, nat_lt}
use Rattle.roster_instance.specs.Counting.{sum_below}
use Rattle.roster_instance.specs.Meaning.{Meaning, day_count, nurse_count}
use Rattle.roster_instance.specs.Rosters.{Rows}
use Rattle.roster_rules.specs.Penalties.{penalty}
use Rattle.roster_prices.specs.declared.decisions.Decision.{Decision}
use Rattle.roster_offers.specs.Lists.{IsScaleOf}
use Rattle.roster_prices.specs.LowerBounds.{IsLeast, in_points, row_bound, rounded_up}
use Rattle.roster_prices.specs.Nodes.{row_bound_in}
use Rattle.roster_bound.specs.BoundLogs.{BoundLine, last_line, no_line}
use Rattle.roster_slots.specs.Slots.{AreDualPrices, SlotPrices, most_dual_price, slots_bound}

-- what slots and nurses cost at least together, in parts of a point, with the greatest dual price still in
-- the price of each day
unfoldable pub sum_by : Meaning → ℕ → Rows → (scale : ℕ) → SlotPrices → ℕ
sum_by c from given scale w =
    slots_bound c scale w + sum_below (nurse_count c) (row_bound c from given scale w)

-- the same in a node
unfoldable pub sum_in : Meaning → ℕ → Rows → (scale : ℕ) → SlotPrices → List Decision → ℕ
sum_in c from given scale w node =
    slots_bound c scale w + sum_below (nurse_count c) (row_bound_in c from given scale w node)

-- the lower bound that such a sum gives
abbrev pub bound_of_sum : Meaning → (scale sum : ℕ) → ℕ
bound_of_sum c scale sum =
    rounded_up c (in_points scale (sum - nurse_count c * (day_count c * (scale * most_dual_price))))

-- a round's sum: that of some dual prices
pub record IsRoundSum (c : Meaning) (from : ℕ) (given : Rows) (scale sum : ℕ) : Type 0 where
  pub dual_prices : SlotPrices
  pub are_dual_prices : AreDualPrices scale dual_prices
  pub sum_is : sum ≡ sum_by c from given scale dual_prices

-- the greatest of the rounds' sums, of which the last round's is the first; 0 if there is none
abbrev pub greatest : List ℕ → ℕ
greatest [] = 0
greatest (x ∷ xs) = max x (greatest xs)

-- how many rounds in a row, up to the last one, were barren: each raised the greatest sum by less than a
-- quarter of a point
abbrev pub barren_count : (scale : ℕ) → List ℕ → ℕ
barren_count scale [] = 0
barren_count scale (x ∷ xs) =
    if nat_lt (4 * (x - greatest xs)) scale then barren_count scale xs + 1 else 0

-- after this many barren rounds in a row there are no more
abbrev pub most_barren : ℕ
most_barren = 30

-- a line more, if its lower bound is above the last one
abbrev pub with_line : List BoundLine → BoundLine → List BoundLine
with_line lines x = if nat_lt (last_line no_line lines).bound x.bound then lines ++ x ∷ [] else lines

-- the lines of rounds with these sums: one for each round whose lower bound is the greatest so far
abbrev pub round_lines : Meaning → (scale : ℕ) → List ℕ → List BoundLine
round_lines c scale [] = []
round_lines c scale (x ∷ xs) =
    with_line (round_lines c scale xs) (record { round = length xs + 1; bound = bound_of_sum c scale x })

-- all rounds were made, or the last thirty were barren
abbrev pub AreEnough : (scale rounds : ℕ) → List ℕ → Type 0
AreEnough scale rounds sums = (rounds ≤ length sums) ⊎ (most_barren ≤ barren_count scale sums)

-- The lines are just those of some rounds, at most as many as were asked for, and of branchings after them. A
-- round is left out only if the last lower bound is what the given roster costs, or if the last thirty rounds
-- were barren.
pub record AreLinesOfRounds (c : Meaning) (from : ℕ) (given : Rows) (rounds : ℕ)
    (lines : List BoundLine) : Type 0 where
  pub scale : ℕ
  pub is_scale : IsScaleOf c scale
  pub sums : List ℕ
  pub each : All (IsRoundSum c from given scale) sums
  pub within : length sums ≤ rounds
  pub branched : List BoundLine
  pub later : All (λ x. rounds < x.round) branched
  pub lines_are : lines ≡ round_lines c scale sums ++ branched
  pub enough : (last_line no_line lines).bound < penalty c given → AreEnough scale rounds sums

-- the same, and each of these rounds counted an extension for each nurse and day
pub record CountsRounds (c : Meaning) (from : ℕ) (given : Rows) (rounds old new : ℕ)
    (lines : List BoundLine) : Type 0 where
  pub are : AreLinesOfRounds c from given rounds lines
  pub made : old + length are.sums * (nurse_count c * day_count c) ≤ new

-- the given roster is optimal, or all rounds were searched, or thirty at least
abbrev pub AreSearched : Meaning → ℕ → Rows → (rounds old new : ℕ) → Type 0
AreSearched c from given rounds old new =
    IsLeast c from given given ⊎ (old + min rounds most_barren * (nurse_count c * day_count c) ≤ new)
