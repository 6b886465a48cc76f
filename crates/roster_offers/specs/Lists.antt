-- The lists of offers that a search goes over, one for each day, and what it finds.
use Rattle.std.specs.Prelude.{◌≡◌, ℕ, ◌+◌, ◌-◌, ◌*◌, ◌<◌, ◌≤◌, true, All, IfSome, List, [], Some, length, max, slice_index_or}
use Rattle.arrayvec.specs.ArrayVec.{ArrayVec}
use Rattle.roster_instance.specs.Limits.{most_days, most_keep, most_shifts, most_skills, most_small}
use Rattle.roster_instance.specs.Meaning.{Meaning, day_count}
use Rattle.roster_instance.specs.Rosters.{Row, is_choice_of}
use Rattle.roster_instance.specs.Sizes.{choice_count}
use Rattle.roster_rules.specs.Prefix.{Summary, summary_of}
use Rattle.roster_rules.specs.Weights.{most_request, staffing_weight}
use Rattle.roster_offers.specs.declared.offer.Offer.{Offer}
use Rattle.roster_offers.specs.Cheapest.{Priced}
use Rattle.roster_offers.specs.Offers.{best_of_offers, best_of_offers_at, choices_of}
use Rattle.roster_state.specs.MostCosts.{most_at_end, most_of_transition}

-- ---- an offer of a day

-- what an offer costs at most: 1,918,200
abbrev pub most_price : ℕ
most_price = most_shifts * most_skills * staffing_weight * most_small + most_request

-- the same without a roster that is kept: 1,918,100
abbrev pub most_price_unkept : ℕ
most_price_unkept = most_price - most_keep

-- the same where prices are finer than a point, in points: by dual prices at most 200,000, with the nurse's
-- requests 200,120. The other 380 are for what a branching decision adds.
abbrev pub most_points : ℕ
most_points = 200500

-- the same in parts of a point, `scale` to a point: at scale 1 whole points
abbrev pub most_price_at : (scale : ℕ) → ℕ
most_price_at scale = max most_price (scale * most_points)

-- its choice is one of the case's, and its price is within range
pub record IsOfferAt (c : Meaning) (scale : ℕ) (offer : Offer) : Type 0 where
  pub choice : is_choice_of c offer.choice ≡ true
  pub price : offer.price ≤ most_price_at scale

-- the same in whole points
abbrev pub IsOfferOf : Meaning → Offer → Type 0
IsOfferOf c = IsOfferAt c 1

-- ---- a list for each day

-- on each day all are offers of the case
abbrev pub AllAreOffersOf : Meaning → (ℕ → List Offer) → Type 0
AllAreOffersOf c offers = (d : ℕ) → All (IsOfferOf c) (offers d)

-- the same at a scale, on the days of the case
abbrev pub AllAreOffersAt : Meaning → (scale : ℕ) → (ℕ → List Offer) → Type 0
AllAreOffersAt c scale offers = (d : ℕ) → d < day_count c → All (IsOfferAt c scale) (offers d)

-- a day's list in a table with a list for each day
abbrev pub offers_on : List (ArrayVec Offer) → ℕ → List Offer
offers_on offers day = (slice_index_or offers day (record { items = [] })).items

-- a day's offers: at least one, no more than the nurse has choices, each a choice of the case at a price
-- within range
pub record AreDayOffersAt (c : Meaning) (n scale : ℕ) (offers : List Offer) : Type 0 where
  pub of_case : All (IsOfferAt c scale) offers
  pub some : 0 < length offers
  pub few : length offers ≤ choice_count c n

abbrev pub AreDayOffers : Meaning → ℕ → List Offer → Type 0
AreDayOffers c n = AreDayOffersAt c n 1

-- a list for each day
pub record AreOffersAt (c : Meaning) (n scale : ℕ) (offers : List (ArrayVec Offer)) : Type 0 where
  pub days : day_count c ≤ length offers
  pub each : (day : ℕ) → day < day_count c → AreDayOffersAt c n scale (offers_on offers day)

abbrev pub AreOffers : Meaning → ℕ → List (ArrayVec Offer) → Type 0
AreOffers c n = AreOffersAt c n 1

-- ---- what is found

-- the label of a state from which no row goes on, 2^30: each row costs less
abbrev pub no_row : ℕ
no_row = 1073741824

-- the greatest label of a state from which a row goes on
abbrev pub most_label : ℕ
most_label = 714740250

-- the same if no roster is kept
abbrev pub most_label_unkept : ℕ
most_label_unkept = 714703850

-- the best row over all days of these offers, with its cost
abbrev pub best_over : Meaning → ℕ → (ℕ → List Offer) → Priced (List Offer)
best_over c n offers = best_of_offers c n offers (day_count c) 0 (summary_of c n [])

-- a best row, if there is one, costs no more than a label can, and less than what stands for no row
abbrev pub HasLowLabel : Priced (List Offer) → Type 0
HasLowLabel best = IfSome best (λ label. (label.0 ≤ most_label) × (label.0 < no_row))

-- so does each label over these offers, whatever the state
abbrev pub HaveLowLabels : Meaning → (n : ℕ) → (ℕ → List Offer) → Type 0
HaveLowLabels c n offers =
    (m d : ℕ) → m ≤ most_days → (s : Summary) → HasLowLabel (best_of_offers c n offers m d s)

-- and no more than one can if no roster is kept
abbrev pub HaveUnkeptLabels : Meaning → (n : ℕ) → (ℕ → List Offer) → Type 0
HaveUnkeptLabels c n offers =
    (m d : ℕ) → m ≤ most_days → (s : Summary)
    → IfSome (best_of_offers c n offers m d s) (λ label. label.0 ≤ most_label_unkept)

-- ---- what is found at a scale

-- the greatest scale
abbrev pub most_scale : ℕ
most_scale = 128

-- what all days and the end cost at most by dual prices, in points
abbrev pub most_row_points : Meaning → ℕ
most_row_points c = day_count c * (most_points + most_of_transition) + most_at_end

-- the scale of a search in a case: with what all days and the end cost at most, no label reaches what stands
-- for no row. It may be 128 over 4 weeks (128 * 6,896,220 = 882,716,160), 64 over
-- 8 weeks and 8 over 52 (8 * 89,411,100 = 715,288,800); it may always be 1.
pub record IsScaleOf (c : Meaning) (scale : ℕ) : Type 0 where
  pub some : 0 < scale
  pub few : scale ≤ most_scale
  pub low : scale * most_row_points c < no_row

-- the greatest label of a state from which a row goes on. If a price can be more in whole points than in
-- parts of one, the scale is at most 9, and this at most 364 * (1,918,200 + 9 * 45,080) + 9 * 19,980 =
-- 846,086,700. Else it is what the scale is limited by.
abbrev pub most_label_at : Meaning → (scale : ℕ) → ℕ
most_label_at c scale =
    day_count c * (most_price_at scale + scale * most_of_transition) + scale * most_at_end

-- the best row over all days of these offers, with its cost
abbrev pub best_over_at : Meaning → (n scale : ℕ) → (ℕ → List Offer) → Priced (List Offer)
best_over_at c n scale offers = best_of_offers_at c n scale offers (day_count c) 0 (summary_of c n [])

-- a best row, if there is one, costs no more than a label can, and less than what stands for no row
abbrev pub HasLowLabelAt : Meaning → (scale : ℕ) → Priced (List Offer) → Type 0
HasLowLabelAt c scale best = IfSome best (λ label. (label.0 ≤ most_label_at c scale) × (label.0 < no_row))

-- so does each label from a day of the case on, whatever the state
abbrev pub HaveLowLabelsAt : Meaning → (n scale : ℕ) → (ℕ → List Offer) → Type 0
HaveLowLabelsAt c n scale offers =
    AllAreOffersAt c scale offers → (m d : ℕ) → m + d ≤ day_count c → (s : Summary)
    → HasLowLabelAt c scale (best_of_offers_at c n scale offers m d s)

-- the cost and the choices of a best row
pub record IsFound (best : Priced (List Offer)) (cost : ℕ) (row : Row) : Type 0 where
  pub offers : List Offer
  pub is : best ≡ Some (cost, offers)
  pub row_is : row ≡ choices_of offers
