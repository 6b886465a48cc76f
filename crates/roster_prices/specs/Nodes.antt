-- Nodes of the branching tree, and lower bounds for the rosters of a node (our own).
use Rattle.std.specs.Prelude.{◌≡◌, ℕ, ◌+◌, ◌-◌, ◌*◌, ◌==◌, ◌≤◌, ◌&&◌, Bool, true, not, if◌then◌else◌, List, [], ◌∷◌, ◌++◌}
use Rattle.std.specs.List.{list_all, list_any}
use Rattle.roster_instance.specs.declared.choice.Choice.{Choice}
use Rattle.roster_instance.specs.Choices.{same_choice}
use Rattle.roster_instance.specs.Meaning.{Meaning}
use Rattle.roster_instance.specs.Rosters.{Rows, choice_on, fits_case, row_of}
use Rattle.roster_rules.specs.HardRules.{keeps_hard}
use Rattle.roster_rules.specs.Penalties.{penalty}
use Rattle.roster_laws.specs.FrozenDays.{FrozenDaysStay}
use Rattle.roster_prices.specs.declared.decisions.Decision.{Decision}
use Rattle.roster_prices.specs.declared.offers.Terms.{Terms}
use Rattle.roster_rules.specs.Weights.{most_request}
use Rattle.roster_offers.specs.Lists.{most_price_at}
use Rattle.roster_slots.specs.Slots.{SlotPrices, most_dual_price}
use Rattle.roster_slots.specs.Tables.{slot_prices}
use Rattle.roster_prices.specs.LowerBounds.{cheapest_cost, in_points, lagrangian_with, price_by, rounded_up}

-- a choice on the decision's day is as decided: the one that it names, or another one
abbrev pub is_as_decided : Decision → Choice → Bool
is_as_decided x choice = if x.does then same_choice choice x.choice else not (same_choice choice x.choice)

-- a roster is in the node of these decisions: each nurse does on each day as decided
abbrev pub is_in_node : List Decision → Rows → Bool
is_in_node node r = list_all (λ x. is_as_decided x (choice_on (row_of r x.nurse) x.day)) node

-- the decision the other way round
abbrev pub other_way : Decision → Decision
other_way x = record x { does = not x.does }

-- no roster of the node costs less, of those that fit the case, keep the hard rules and agree with the given
-- one on the frozen days
abbrev pub IsLowerBoundIn : Meaning → ℕ → Rows → List Decision → ℕ → Type 0
IsLowerBoundIn c from given node bound =
    (r : Rows) → fits_case c r ≡ true → keeps_hard c r ≡ true → FrozenDaysStay c from given r
    → is_in_node node r ≡ true → bound ≤ penalty c r

-- nor does one of either child, which adds a decision, as it is or the other way round
abbrev pub IsLowerBoundInBoth : Meaning → ℕ → Rows → List Decision → Decision → ℕ → Type 0
IsLowerBoundInBoth c from given node x bound =
    IsLowerBoundIn c from given (node ++ x ∷ []) bound
    × IsLowerBoundIn c from given (node ++ other_way x ∷ []) bound

-- ---- what a nurse's row costs at least in a node

-- a choice of a nurse on a day goes against one of the decisions
abbrev pub is_against : List Decision → (n d : ℕ) → Choice → Bool
is_against node n d choice =
    list_any (λ x. (x.nurse == n) && (x.day == d) && not (is_as_decided x choice)) node

-- such a choice costs this many parts more: all that a price can have but the dual price and the requests.
-- That is 1,718,080 points at scale 1, 39,655 at scale 8 and 380 at scale 128.
abbrev pub against_price : (scale : ℕ) → ℕ
against_price scale = most_price_at scale - scale * (most_dual_price + most_request)

abbrev pub price_in : Meaning → (scale : ℕ) → SlotPrices → List Decision → (n d : ℕ) → Choice → ℕ
price_in c scale w node n d choice =
    if is_against node n d choice then against_price scale + price_by c scale w n d choice
    else price_by c scale w n d choice

abbrev pub row_bound_in : Meaning → ℕ → Rows → (scale : ℕ) → SlotPrices → List Decision → (n : ℕ) → ℕ
row_bound_in c from given scale w node n = cheapest_cost c from given scale (price_in c scale w node n) n

-- the dual prices of terms, and the price of a choice by them in a node
abbrev pub dual_prices_of : Terms → SlotPrices
dual_prices_of terms = slot_prices terms.scale terms.dual_prices.now

abbrev pub node_price : Terms → List Decision → (n d : ℕ) → Choice → ℕ
node_price terms node = price_in terms.case.now terms.scale (dual_prices_of terms) node

-- no row costs more: it is the sum of two numbers of 32 bits, of which one is in points and is multiplied by
-- the scale, at most 128
abbrev pub most_row_bound : ℕ
most_row_bound = 554050781055

-- what the slots and the nurses cost at least in the node
unfoldable pub bound_in : Meaning → ℕ → Rows → (scale : ℕ) → SlotPrices → List Decision → ℕ
bound_in c from given scale w node =
    rounded_up c (in_points scale (lagrangian_with c scale w (row_bound_in c from given scale w node)))
