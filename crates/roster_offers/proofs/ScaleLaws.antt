-- Labels are low at each scale.
use Rattle.std.proofs.Common.{◌≡◌, ◌∙◌, ◌+◌, ◌*◌, ◌<◌, ◌≤◌, ◌⊎◌, ℕ, zero, suc, All, IsSome, List, Option, Some, None, [], ◌∷◌, ap, arith, inl, inr, refl, subst, sym}
use Rattle.std.specs.Prelude.{IfSome}
use Rattle.std.proofs.lemmas.Bool.{cases_lt, true≢false}
use Rattle.std.proofs.lemmas.Nat.{mul-le}
use Rattle.roster_instance.specs.Choices.{shift_of}
use Rattle.roster_instance.specs.Limits.{most_weeks}
use Rattle.roster_instance.specs.Meaning.{Meaning, day_count, week_count}
use Rattle.roster_instance.specs.Small.{HasSmallNumbers}
use Rattle.roster_rules.specs.Prefix.{Summary, summary_of}
use Rattle.roster_state.specs.MostCosts.{most_at_end, most_of_transition}
use Rattle.roster_state.specs.Transition.{end_cost_of, transition_of}
use Rattle.roster_offers.specs.declared.offer.Offer.{Offer}
use Rattle.roster_offers.specs.ByStates.{best_after}
use Rattle.roster_offers.specs.Cheapest.{Priced, raised}
use Rattle.roster_offers.specs.Offers.{best_of_offers_at, dearer, offer_transition_at, scaled}
use Rattle.roster_offers.specs.Lists.{AllAreOffersAt, IsOfferAt, IsOfferOf, IsScaleOf, best_over, best_over_at, most_label_at, most_points, most_price, most_price_at, most_scale, no_row}
use Rattle.roster_offers.proofs.AtOne.{best_over_one}
use Rattle.roster_offers.proofs.Cheapest.{cost_or}
use Rattle.roster_offers.proofs.LowRows.{LowRow, one_of_all, transition_low}

-- ---- scale 1

pub one_is_scale : (c : Meaning) → week_count c ≤ most_weeks → IsScaleOf c 1
one_is_scale c weeks = record { some = omega arith; few = omega arith; low = omega (arith, weeks) }

-- ---- a day's cost

-- what a day costs at most, with what comes after it
one_more : (m most rest here : ℕ) → here ≤ most → (total : ℕ) → here + rest ≡ total → (later : ℕ) → rest ≤ m * most + later → total ≤ suc m * most + later
one_more m most rest here few total is later low = omega (arith, few, is, low)

-- an offer and a transition together, at any scale
pub day_low : (scale price cost : ℕ) → scale ≤ most_scale → price ≤ most_price_at scale → cost ≤ most_of_transition → price + scale * cost ≤ 31434240
day_low scale price cost few low within =
    let most = mul-le scale cost most_scale most_of_transition few within in
    omega (arith, low, few, most)

-- ---- labels

module _ (c : Meaning) (small : HasSmallNumbers c) (n scale : ℕ) (offers : ℕ → List Offer) (of_case : AllAreOffersAt c scale offers) where
  -- the greatest cost of a day, and of this number of days and of the end
  abbrev most_day : ℕ
  most_day = most_price_at scale + scale * most_of_transition

  abbrev most_of : ℕ → ℕ
  most_of m = m * most_day + scale * most_at_end

  -- an offer, a transition and what comes after them
  one_day : (m d : ℕ) (s : Summary) (x : Offer) (rest : Summary → Priced (List Offer)) (best : ℕ × List Offer) → IsOfferAt c scale x → ((t : Summary) → IfSome (rest t) (λ p. p.0 ≤ most_of m))
      → best_after x (offer_transition_at c n scale d s x) rest ≡ Some best → best.0 ≤ most_of (suc m)
  one_day m d s x rest best of later is = go (transition_of c n d s (shift_of x.choice)) refl is
    where
      after : (more : ℕ) (o : Priced (List Offer)) → more ≤ most_day → IfSome o (λ p. p.0 ≤ most_of m) → raised more (λ xs. x ∷ xs) o ≡ Some best → best.0 ≤ most_of (suc m)
      after more None few low e = absurd cc
      after more (Some p) few low e = one_more m most_day p.0 more few best.0 (ap (cost_or 0) e) (scale * most_at_end) low

      go : (o : Option (Summary × ℕ)) → transition_of c n d s (shift_of x.choice) ≡ o → best_after x (dearer x.price (scaled scale o)) rest ≡ Some best → best.0 ≤ most_of (suc m)
      go None stepped e = absurd cc
      go (Some t) stepped e =
          let cost : scale * t.1 ≤ scale * most_of_transition = mul-le scale t.1 scale most_of_transition (omega arith) (transition_low c small n d s (shift_of x.choice) t stepped) in
          after (x.price + scale * t.1) (rest t.0) (omega (arith, of.price, cost)) (later t.0) e

  low_from : (m d : ℕ) → m + d ≤ day_count c → (s : Summary) → IfSome (best_of_offers_at c n scale offers m d s) (λ label. label.0 ≤ most_of m)
  low_from zero d within s =
      let least : (end_cost_of c n s) ≤ most_at_end = omega (arith, (small.contracts n).total.least) in
      let cost : scale * end_cost_of c n s ≤ scale * most_at_end = mul-le scale (end_cost_of c n s) scale most_at_end (omega arith) least in
      omega (arith, cost)
  low_from (suc m) d within s = go (best_of_offers_at c n scale offers (suc m) d s) refl (low_from m (suc d) (omega (arith, within)))
    where
      go : (o : Priced (List Offer)) → best_of_offers_at c n scale offers (suc m) d s ≡ o → ((t : Summary) → IfSome (best_of_offers_at c n scale offers m (suc d) t) (λ p. p.0 ≤ most_of m)) → IfSome o (λ label. label.0 ≤ most_of (suc m))
      go None is later = tt
      go (Some best) is later =
          let one = one_of_all (λ x. best_after x (offer_transition_at c n scale d s x) (best_of_offers_at c n scale offers m (suc d))) (IsOfferAt c scale) (offers d) best (of_case d (omega (arith, within))) is in
          one_day m d s one.0 (best_of_offers_at c n scale offers m (suc d)) best one.1 later one.2

-- the greatest label is below what stands for no row
module _ (days scale : ℕ) (few : days ≤ 364) (low : scale * (days * (most_points + most_of_transition) + most_at_end) < no_row) where
  abbrev Below : ℕ → Type 0
  Below price = days * (price + scale * most_of_transition) + scale * most_at_end < no_row

  by_points : Below (scale * most_points)
  by_points = omega (arith, low)

  by_price : scale ≤ 9 → Below most_price
  by_price plain = omega (arith, mul-le days scale days 9 (omega arith) plain, few, plain)

  most_low : Below (most_price_at scale)
  most_low = go (cases_lt most_price (scale * most_points))
    where
      go : (most_price < scale * most_points) ⊎ (scale * most_points ≤ most_price) → Below (most_price_at scale)
      go (inl finer) = let price : scale * most_points ≡ most_price_at scale = omega (arith, finer) in subst Below price by_points
      go (inr plain) = let price : most_price ≡ most_price_at scale = omega (arith, plain) in subst Below price (by_price (omega (arith, plain)))

-- of more days it is no less
more_days : (m days most end label : ℕ) → m ≤ days → label ≤ m * most + end → label ≤ days * most + end
more_days m days most end label within low = omega (arith, low, mul-le m most days most within (omega arith))

module _ (c : Meaning) (small : HasSmallNumbers c) (weeks : week_count c ≤ most_weeks) (n scale : ℕ) (is_scale : IsScaleOf c scale) (offers : ℕ → List Offer) (of_case : AllAreOffersAt c scale offers) where
  low_label : (m label : ℕ) → m ≤ day_count c → label ≤ m * (most_price_at scale + scale * most_of_transition) + scale * most_at_end → (label ≤ most_label_at c scale) × (label < no_row)
  low_label m label within low =
      let most : label ≤ most_label_at c scale = more_days m (day_count c) (most_price_at scale + scale * most_of_transition) (scale * most_at_end) label within low in
      let below = most_low (day_count c) scale (omega (arith, weeks)) is_scale.low in
      (most, below_most label (most_label_at c scale) most below)
    where
      below_most : (label most : ℕ) → label ≤ most → most < no_row → label < no_row
      below_most label most up_to low = omega (arith, up_to, low)

  pub label_low_at : (m d : ℕ) → m + d ≤ day_count c → (s : Summary) → IfSome (best_of_offers_at c n scale offers m d s) (λ label. (label.0 ≤ most_label_at c scale) × (label.0 < no_row))
  label_low_at m d within s = go (best_of_offers_at c n scale offers m d s) (low_from c small n scale offers of_case m d within s)
    where
      go : (o : Priced (List Offer)) → IfSome o (λ label. label.0 ≤ m * (most_price_at scale + scale * most_of_transition) + scale * most_at_end) → IfSome o (λ label. (label.0 ≤ most_label_at c scale) × (label.0 < no_row))
      go None low = tt
      go (Some label) low = low_label m label.0 (omega (arith, within)) low

  pub low_over_at : IsSome (best_over_at c n scale offers) → LowRow (best_over_at c n scale offers)
  low_over_at some = go (best_over_at c n scale offers) refl some (label_low_at (day_count c) 0 (omega arith) (summary_of c n []))
    where
      go : (o : Priced (List Offer)) → best_over_at c n scale offers ≡ o → IsSome o → IfSome o (λ label. (label.0 ≤ most_label_at c scale) × (label.0 < no_row)) → LowRow (best_over_at c n scale offers)
      go None is none low = elim (true≢false (sym none)) [ ]
      go (Some best) is found low = record { row = best; is = is; low = low.1 }

-- ---- in whole points

module _ (c : Meaning) (n : ℕ) (offers : ℕ → List Offer) (of_case : (d : ℕ) → d < day_count c → All (IsOfferOf c) (offers d)) (small : HasSmallNumbers c) (weeks : week_count c ≤ most_weeks) where
  pub cost_over : (cost : ℕ) (best : List Offer) → best_over c n offers ≡ Some (cost, best) → cost < no_row
  cost_over cost best is =
      let low = subst (λ (o : Priced (List Offer)). IfSome o (λ label. (label.0 ≤ most_label_at c 1) × (label.0 < no_row))) (best_over_one c n offers ∙ is)
      (label_low_at c small weeks n 1 (one_is_scale c weeks) offers of_case (day_count c) 0 (omega arith) (summary_of c n [])) in
      low.1
