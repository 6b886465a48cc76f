-- What the search over offers finds.
use Rattle.std.specs.Prelude.{◌≡◌, ℕ, ◌+◌, ◌*◌, ◌<◌, Bool, true, List, [], ◌∷◌, Some}
use Rattle.roster_instance.specs.declared.choice.Choice.{Choice}
use Rattle.roster_instance.specs.Meaning.{Meaning, day_count}
use Rattle.roster_instance.specs.Rosters.{Rows, choice_on, row_of}
use Rattle.roster_rules.specs.AllowedRows.{IsBestRow, IsFirstLeast, is_frozen, penalty_with}
use Rattle.roster_rules.specs.Prefix.{due}
use Rattle.roster_laws.specs.OneRow.{rest_of}
use Rattle.roster_offers.specs.declared.offer.Offer.{Offer}
use Rattle.roster_offers.specs.Cheapest.{Priced}
use Rattle.roster_offers.specs.Lists.{best_over, best_over_at, no_row}
use Rattle.roster_offers.specs.Offers.{best_by_states, cheapest_by_shift, choices_of, offer_of, offered_rows, offers_by, offers_of, row_cost_at, row_cost_in}

-- ---- whatever is offered on each day, and at whatever prices

-- the best row over the cheapest offers for each shift, with its cost
abbrev pub best_offered : Meaning → ℕ → (ℕ → Choice → Bool) → (ℕ → Choice → ℕ) → Priced (List Offer)
best_offered c n offered price = best_over c n (λ d. cheapest_by_shift (offers_by c offered price d))

-- it is the first of the cheapest rows that are offered
abbrev pub FindsCheapest : Meaning → ℕ → (ℕ → Choice → Bool) → (ℕ → Choice → ℕ) → Type 0
FindsCheapest c n offered price =
    (cost : ℕ) (offers : List Offer) → best_offered c n offered price ≡ Some (cost, offers)
    → IsFirstLeast (row_cost_at c n price) (offered_rows c n offered) (choices_of offers)

-- it costs what the start owes, and the cost that is found
abbrev pub GivesItsCost : Meaning → ℕ → (ℕ → Choice → Bool) → (ℕ → Choice → ℕ) → Type 0
GivesItsCost c n offered price =
    (cost : ℕ) (offers : List Offer) → best_offered c n offered price ≡ Some (cost, offers)
    → row_cost_at c n price (choices_of offers) ≡ due c n [] + cost

-- ---- the same at a scale

-- the best row over the cheapest offers for each shift, with its cost
abbrev pub best_offered_at : Meaning → (n scale : ℕ) → (ℕ → Choice → Bool) → (ℕ → Choice → ℕ)
    → Priced (List Offer)
best_offered_at c n scale offered price =
    best_over_at c n scale (λ d. cheapest_by_shift (offers_by c offered price d))

-- it is the first of the cheapest rows that are offered
abbrev pub FindsCheapestAt : Meaning → (n scale : ℕ) → (ℕ → Choice → Bool) → (ℕ → Choice → ℕ) → Type 0
FindsCheapestAt c n scale offered price =
    (cost : ℕ) (offers : List Offer) → best_offered_at c n scale offered price ≡ Some (cost, offers)
    → IsFirstLeast (row_cost_in c n scale price) (offered_rows c n offered) (choices_of offers)

-- it costs what the start owes, and the cost that is found
abbrev pub GivesItsCostAt : Meaning → (n scale : ℕ) → (ℕ → Choice → Bool) → (ℕ → Choice → ℕ) → Type 0
GivesItsCostAt c n scale offered price =
    (cost : ℕ) (offers : List Offer) → best_offered_at c n scale offered price ≡ Some (cost, offers)
    → row_cost_in c n scale price (choices_of offers) ≡ scale * due c n [] + cost

-- ---- what is offered while the other nurses' rows stay

-- what is found is the nurse's best row
abbrev pub FindsBestRow : Meaning → ℕ → Rows → ℕ → Type 0
FindsBestRow c from r n =
    (cost : ℕ) (offers : List Offer) → best_by_states c from r n ≡ Some (cost, offers)
    → IsBestRow c from r n (choices_of offers)

-- its cost is below what stands for no row
abbrev pub FindsLowCost : Meaning → ℕ → Rows → ℕ → Type 0
FindsLowCost c from r n =
    (cost : ℕ) (offers : List Offer) → best_by_states c from r n ≡ Some (cost, offers) → cost < no_row

-- with it the roster's penalty is the sum of what the others' rows cost, what the start owes, and that cost
abbrev pub GivesThePenalty : Meaning → ℕ → Rows → ℕ → Type 0
GivesThePenalty c from r n =
    (cost : ℕ) (offers : List Offer) → best_by_states c from r n ≡ Some (cost, offers)
    → penalty_with c r n (choices_of offers) ≡ rest_of c r n + due c n [] + cost

-- on each frozen day one choice is offered, the present one
abbrev pub OffersThePresent : Meaning → ℕ → Rows → ℕ → Type 0
OffersThePresent c from r n =
    (d : ℕ) → d < day_count c → is_frozen c from n d ≡ true
    → offers_of c from r n d ≡ offer_of c r n d (choice_on (row_of r n) d) ∷ []
