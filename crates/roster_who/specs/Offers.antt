-- What a nurse is offered on each day when her first cheapest row with an assignment is searched for: the
-- choices, each with its price (our own).
use Rattle.std.specs.Prelude.{◌≡◌, ℕ, ◌+◌, ◌-◌, ◌*◌, ◌<◌, ◌==◌, ◌&&◌, ◌||◌, Bool, false, not, min, nat_le, nat_lt, if◌then◌else◌, List, [], length, slice_index_or, Option, None, Some}
use Rattle.arrayvec.specs.ArrayVec.{ArrayVec}
use Rattle.roster_instance.specs.declared.choice.Choice.{Choice}
use Rattle.roster_instance.specs.declared.choice.Choice.TheVariants.{Off, Work}
use Rattle.roster_instance.specs.Choices.{shift_of}
use Rattle.roster_instance.specs.Counting.{all_below, one_if}
use Rattle.roster_instance.specs.Meaning.{Meaning, day_count, minimum, optimum, shift_count, skill_count}
use Rattle.roster_instance.specs.Rosters.{Rows, cover, is_choice_of}
use Rattle.roster_rules.specs.AllowedRows.{keeps_frozen_day}
use Rattle.roster_rules.specs.Covers.{AreCovers}
use Rattle.roster_rules.specs.Penalties.{request_cost_on}
use Rattle.roster_rules.specs.Weights.{staffing_weight}
use Rattle.roster_laws.specs.OneRow.{others}
use Rattle.roster_laws.specs.Staffing.{with_choice}
use Rattle.roster_offers.specs.declared.offer.Offer.{Offer}
use Rattle.roster_offers.specs.Offers.{cheapest_by_shift, offer_at, offers_by, takes}
use Rattle.roster_offers.specs.Lists.{offers_on}
use Rattle.roster_who.specs.declared.asked.Asked.{Asked}
use Rattle.roster_who.specs.Who.{is_asked, missed_weight}

-- the tables, one for each day, give the cover of each slot
pub record AreCounted (c : Meaning) (r : Rows) (covers : List (List ℕ)) : Type 0 where
  pub days : length covers ≡ day_count c
  pub each : (d : ℕ) → d < day_count c → AreCovers r d (slice_index_or covers d [])

-- ---- which choices are offered

-- with the choice no slot of the day is short by more than before
abbrev pub keeps_slots : Meaning → Rows → (n d : ℕ) → Choice → Bool
keeps_slots c r n d choice =
    all_below (shift_count c) (λ s. all_below (skill_count c)
    (λ k. nat_le (min (minimum c d s k) (cover r d s k)) (with_choice (others r n d) choice s k)))

-- the slot of the choice has no more nurses than its minimum, so it needs each of them
abbrev pub is_needed : Meaning → Rows → ℕ → Choice → Bool
is_needed c r d Off = false
is_needed c r d (Work s k) = nat_le (cover r d s.0 k.0) (minimum c d s.0 k.0)

-- with the choice no slot is short by more, and on the day of the assignment it is the assignment
abbrev pub fills : Meaning → Rows → Asked → (n d : ℕ) → Choice → Bool
fills c r asked n d choice = keeps_slots c r n d choice && (not (d == asked.day) || is_asked asked choice)

-- the same, and on a frozen day the choice is the present one
abbrev pub is_open_for : Meaning → ℕ → Rows → Asked → (n d : ℕ) → Choice → Bool
is_open_for c from r asked n d choice = keeps_frozen_day c from r n d choice && fills c r asked n d choice

-- a row with the assignment can have this choice
abbrev pub can_take : Meaning → ℕ → Rows → Asked → (n d : ℕ) → Choice → Bool
can_take c from r asked n = takes c n (is_open_for c from r asked n)

-- ---- their prices

-- the gain of one more nurse in a slot with this cover
abbrev pub gain_at : Meaning → (d s k have : ℕ) → ℕ
gain_at c d s k have =
    missed_weight * one_if (nat_lt have (minimum c d s k)) + staffing_weight
    * one_if (nat_lt have (optimum c d s k))

-- the nurse's gain with a choice; 0 if the choice isn't one of the case's
abbrev pub gain_with : Meaning → Rows → (n d : ℕ) → Choice → ℕ
gain_with c r n d Off = 0
gain_with c r n d (Work s k) = gain_at c d s.0 k.0 (others r n d s.0 k.0)

abbrev pub gain_of : Meaning → Rows → (n d : ℕ) → Choice → ℕ
gain_of c r n d choice = if is_choice_of c choice then gain_with c r n d choice else 0

abbrev pub most_gain : ℕ
most_gain = missed_weight + staffing_weight

-- the most that a nurse can gain less what she gains with the choice, plus what her requests cost
abbrev pub taking_price : Meaning → Rows → (n d : ℕ) → Choice → ℕ
taking_price c r n d choice = (most_gain - gain_of c r n d choice) + request_cost_on c n d (shift_of choice)

-- ---- choices with their prices

-- the offer of a choice, if it fills
abbrev pub offer_if_filling : Meaning → Rows → Asked → (n d : ℕ) → Choice → Option Offer
offer_if_filling c r asked n d choice =
    if fills c r asked n d choice then Some (offer_at (taking_price c r n) d choice) else None

-- the offers of all choices that the nurse can take
abbrev pub taking_offers : Meaning → ℕ → Rows → Asked → (n d : ℕ) → List Offer
taking_offers c from r asked n d = offers_by c (can_take c from r asked n) (taking_price c r n) d

-- for each shift only the cheapest of them
abbrev pub shift_taking_offers : Meaning → ℕ → Rows → Asked → (n d : ℕ) → List Offer
shift_taking_offers c from r asked n d = cheapest_by_shift (taking_offers c from r asked n d)

-- a table of such offers, with a list for each day
pub record AreTakingOffers (c : Meaning) (from : ℕ) (r : Rows) (asked : Asked) (n : ℕ)
    (offers : List (ArrayVec Offer)) : Type 0 where
  pub days : length offers ≡ day_count c
  pub each : (day : ℕ) → day < day_count c → offers_on offers day ≡ shift_taking_offers c from r asked n day
