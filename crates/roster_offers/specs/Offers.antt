-- What is offered to a nurse, each choice with its price, and the search over it from state to state.
use Rattle.std.specs.Prelude.{◌≡◌, ℕ, ◌+◌, ◌*◌, ◌<◌, ◌==◌, ◌&&◌, Bool, true, false, not, nat_lt, if◌then◌else◌, List, [], ◌∷◌, filter, length, map, Option, Some, None, option_map, slice_index_or}
use Rattle.std.specs.List.{list_any, range_with_len}
use Rattle.roster_instance.specs.declared.choice.Choice.{Choice}
use Rattle.roster_instance.specs.declared.choice.Choice.TheVariants.{Work}
use Rattle.roster_instance.specs.declared.choice.Shift.{Shift}
use Rattle.roster_instance.specs.Choices.{all_choices, all_rows, days_of, shift_of}
use Rattle.roster_instance.specs.Counting.{all_below, sum_below}
use Rattle.roster_rules.specs.HardRules.{breaks_succession, may_take}
use Rattle.roster_instance.specs.Meaning.{Meaning, day_count, is_absent, nurse_at, shift_at, skill_at, skill_count}
use Rattle.roster_rules.specs.Penalties.{own_cost}
use Rattle.roster_rules.specs.Prefix.{Summary, summary_of}
use Rattle.roster_instance.specs.Rosters.{Row, Rows, choice_on}
use Rattle.roster_laws.specs.OneRow.{is_offered, is_open, price}
use Rattle.roster_state.specs.Transition.{end_cost_of, transition_of}
use Rattle.roster_offers.specs.declared.offer.Offer.{Offer}
use Rattle.roster_offers.specs.Cheapest.{Priced}
use Rattle.roster_offers.specs.ByStates.{Transitions, best_from}

-- ---- whatever is offered on each day, and at whatever prices

-- a choice with its price on a day
abbrev pub offer_at : (ℕ → Choice → ℕ) → ℕ → Choice → Offer
offer_at price d choice = record { choice = choice; price = price d choice }

-- the offers of a day
abbrev pub offers_by : Meaning → (ℕ → Choice → Bool) → (ℕ → Choice → ℕ) → ℕ → List Offer
offers_by c offered price d = map (offer_at price d) (filter (offered d) (all_choices c))

-- the nurse may take the choice, and it is open
abbrev pub takes : Meaning → ℕ → (ℕ → Choice → Bool) → ℕ → Choice → Bool
takes c n is_open d choice = may_take c n d choice && is_open d choice

-- those of the choices that are open, each at its price
abbrev pub offers_open : Meaning → ℕ → (ℕ → Choice → Bool) → (ℕ → Choice → ℕ) → ℕ → List Offer
offers_open c n is_open price d = offers_by c (takes c n is_open) price d

-- the list says of each skill whether the nurse may work with it on the day
abbrev pub SaysWhichSkills : Meaning → (n d : ℕ) → List Bool → Type 0
SaysWhichSkills c n d able =
    (k : ℕ) → k < skill_count c → slice_index_or able k false
    ≡ (list_any (λ own. own.0 == k) (nurse_at c n).skills && not (is_absent c n d))

-- each of a row's first m choices is offered on its day, and may follow the one before it, the first one the
-- history's last shift
abbrev pub offered_row_by : Meaning → ℕ → (ℕ → Choice → Bool) → Row → ℕ → Bool
offered_row_by c n offered row m =
    all_below m (λ d. offered d (choice_on row d) && not (breaks_succession c n (days_of row) d))

-- the rows of the case of which each choice is offered, in order
abbrev pub offered_rows : Meaning → ℕ → (ℕ → Choice → Bool) → List Row
offered_rows c n offered =
    filter (λ row. offered_row_by c n offered row (day_count c)) (all_rows (all_choices c) (day_count c))

-- the sum of the prices of a row's choices on their days
abbrev pub row_prices_by : (ℕ → Choice → ℕ) → Row → ℕ
row_prices_by price row = sum_below (length row) (λ d. price d (choice_on row d))

-- what a row costs: its prices, and what the nurse's own rules cost along it
abbrev pub row_cost_at : Meaning → ℕ → (ℕ → Choice → ℕ) → Row → ℕ
row_cost_at c n price row = own_cost c n (days_of row) + row_prices_by price row

-- ---- what is offered while the other nurses' rows stay

-- a choice with its price on a day: that day's staffing with it, and the nurse's own requests
abbrev pub offer_of : Meaning → Rows → ℕ → ℕ → Choice → Offer
offer_of c r n d choice = record { choice = choice; price = price c r n d choice }

-- what is open to a nurse on a day
abbrev pub open_offers : Meaning → Rows → ℕ → ℕ → List Offer
open_offers c r n d = map (offer_of c r n d) (filter (is_open c r n d) (all_choices c))

-- the offers of a nurse on a day, if the days before week `from` and her fixed ones are frozen
abbrev pub offers_of : Meaning → ℕ → Rows → ℕ → ℕ → List Offer
offers_of c from r n d = map (offer_of c r n d) (filter (is_offered c from r n d) (all_choices c))

-- ---- one offer for each shift

-- two days off count as the same shift
abbrev pub same_shift : Option Shift → Option Shift → Bool
same_shift None None = true
same_shift None (Some t) = false
same_shift (Some s) None = false
same_shift (Some s) (Some t) = s.0 == t.0

-- an offer in front of others: if the next one is for the same shift, only the cheaper of the two stays, of
-- equally cheap ones the first
abbrev pub in_front : Offer → List Offer → List Offer
in_front x [] = x ∷ []
in_front x (y ∷ ys) =
    if same_shift (shift_of x.choice) (shift_of y.choice)
    then (if nat_lt y.price x.price then y ∷ ys else x ∷ ys) else x ∷ y ∷ ys

-- of the offers for each shift, which are next to each other, the first of the cheapest
unfoldable pub cheapest_by_shift : List Offer → List Offer
cheapest_by_shift [] = []
cheapest_by_shift (x ∷ xs) = in_front x (cheapest_by_shift xs)

-- the cheaper of two offers for one shift, of equally cheap ones the first
abbrev pub cheaper_offer : Option Offer → Option Offer → Option Offer
cheaper_offer None other = other
cheaper_offer (Some x) None = Some x
cheaper_offer (Some x) (Some y) = if nat_lt y.price x.price then Some y else Some x

-- a shift with each of the first skills
abbrev pub with_skills : (shift skills : ℕ) → List Choice
with_skills s skills = map (λ k. Work (shift_at s) (skill_at k)) (range_with_len 0 skills)

abbrev pub offers_among : (Choice → Bool) → (Choice → Offer) → List Choice → List Offer
offers_among keep offer choices = map offer (filter keep choices)

-- the cheapest offer of a shift
abbrev pub cheapest_with : Meaning → ℕ → (ℕ → Choice → Bool) → (ℕ → Choice → ℕ) → (d shift : ℕ) → List Offer
cheapest_with c n is_open price d s =
    cheapest_by_shift (offers_among (takes c n is_open d) (offer_at price d) (with_skills s (skill_count c)))

-- the offers of a nurse on a day, the cheapest for each shift
abbrev pub shift_offers : Meaning → ℕ → Rows → ℕ → ℕ → List Offer
shift_offers c from r n d = cheapest_by_shift (offers_of c from r n d)

-- ---- the search over offers

abbrev pub choices_of : List Offer → Row
choices_of offers = map (λ offer. offer.choice) offers

-- a transition whose cost is raised by k
abbrev pub dearer : {S : Type 0} → ℕ → Option (S × ℕ) → Option (S × ℕ)
dearer k transition = option_map (λ t. (t.0, k + t.1)) transition

-- a day with an offer: its price, and the transition of the nurse's state
abbrev pub offer_transition : Meaning → ℕ → Transitions Summary Offer
offer_transition c n d s offer = dearer offer.price (transition_of c n d s (shift_of offer.choice))

-- the best row of m days of these offers, from day d and state s on, with its cost
abbrev pub best_of_offers : Meaning → ℕ → (ℕ → List Offer) → (m d : ℕ) → Summary → Priced (List Offer)
best_of_offers c n offers m d s = best_from offers (offer_transition c n) (end_cost_of c n) m d s

-- ---- the same at a scale: prices are in parts of a point, and a point has `scale` parts

-- a transition whose cost is in parts of a point
abbrev pub scaled : {S : Type 0} → (scale : ℕ) → Option (S × ℕ) → Option (S × ℕ)
scaled scale transition = option_map (λ t. (t.0, scale * t.1)) transition

-- a day with an offer: its price, and the transition of the nurse's state
abbrev pub offer_transition_at : Meaning → (n scale : ℕ) → Transitions Summary Offer
offer_transition_at c n scale d s offer =
    dearer offer.price (scaled scale (transition_of c n d s (shift_of offer.choice)))

-- what is missing at the end
abbrev pub end_cost_at : Meaning → (n scale : ℕ) → Summary → ℕ
end_cost_at c n scale s = scale * end_cost_of c n s

-- the best row of m days of these offers, from day d and state s on, with its cost
abbrev pub best_of_offers_at : Meaning → (n scale : ℕ) → (ℕ → List Offer) → (m d : ℕ) → Summary
    → Priced (List Offer)
best_of_offers_at c n scale offers m d s =
    best_from offers (offer_transition_at c n scale) (end_cost_at c n scale) m d s

-- what a row costs: its prices, and what the nurse's own rules cost along it
abbrev pub row_cost_in : Meaning → (n scale : ℕ) → (ℕ → Choice → ℕ) → Row → ℕ
row_cost_in c n scale price row = scale * own_cost c n (days_of row) + row_prices_by price row

-- at scale 1 the best row is the one in whole points
abbrev pub IsPlainAtOne : Meaning → ℕ → (ℕ → List Offer) → (m d : ℕ) → Summary → Type 0
IsPlainAtOne c n offers m d s = best_of_offers_at c n 1 offers m d s ≡ best_of_offers c n offers m d s

-- ---- a nurse's best row

-- the best row of a nurse
abbrev pub best_by_states : Meaning → ℕ → Rows → ℕ → Priced (List Offer)
best_by_states c from r n = best_of_offers c n (offers_of c from r n) (day_count c) 0 (summary_of c n [])
