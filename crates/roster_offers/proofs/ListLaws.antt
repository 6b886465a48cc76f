-- The lists of offers of a search: they are read from a table, and if two tables agree, so do the best rows
-- over them.
use Rattle.std.proofs.Common.{◌≡◌, ◌∙◌, ◌+◌, ◌<◌, ◌≤◌, ℕ, zero, suc, ap, arith, refl, List, [], slice_index_or}
use Rattle.std.proofs.lemmas.List.{get_or_default}
use Rattle.arrayvec.specs.ArrayVec.{ArrayVec}
use Rattle.roster_instance.specs.declared.choice.Choice.TheVariants.{Off}
use Rattle.roster_instance.specs.Meaning.{Meaning, day_count}
use Rattle.roster_rules.specs.Prefix.{Summary, summary_of}
use Rattle.roster_state.specs.Transition.{end_cost_of}
use Rattle.roster_offers.specs.declared.offer.Offer.{Offer}
use Rattle.roster_offers.specs.ByStates.{Transitions, best_after, best_from}
use Rattle.roster_offers.specs.Cheapest.{cheapest}
use Rattle.roster_offers.specs.Lists.{AreOffersAt, best_over, best_over_at, offers_on}
use Rattle.roster_offers.specs.Offers.{end_cost_at, offer_transition, offer_transition_at}

-- a day off at no price: what is read past the end of a list
abbrev pub no_offer : Offer
no_offer = record { choice = Off; price = 0 }

-- ---- as they are read

-- a day's offers, as they are read from the table
pub offers_read : {scale : ℕ} (c : Meaning) (n : ℕ) (offers : List (ArrayVec Offer)) → AreOffersAt c n scale offers → (day : ℕ) → day < day_count c → (read d : ArrayVec Offer) → read ≡ slice_index_or offers day d → read.items ≡ offers_on offers day
offers_read c n offers are day within read d is =
    ap (λ (v : ArrayVec Offer). v.items) (is ∙ get_or_default offers day d (record { items = [] }) (omega (arith, within, are.days)))

-- ---- lists that agree on each day

best_from_same : (transition : Transitions Summary Offer) (finish : Summary → ℕ) (f g : ℕ → List Offer) (m d : ℕ) (s : Summary) → ((k : ℕ) → d ≤ k → k < d + m → f k ≡ g k) → best_from f transition finish m d s ≡ best_from g transition finish m d s
best_from_same transition finish f g zero d s same = refl
best_from_same transition finish f g (suc m) d s same =
    let here : f d ≡ g d = same d (omega arith) (omega arith) in
    let later : (t : Summary) → best_from f transition finish m (suc d) t ≡ best_from g transition finish m (suc d) t = λ t. best_from_same transition finish f g m (suc d) t (λ k low high. same k (omega (arith, low)) (omega (arith, high))) in
    (λ i. cheapest (λ x. best_after x (transition d s x) (λ t. later t i)) (here i))

module _ (c : Meaning) (n : ℕ) (f g : ℕ → List Offer) (same : (day : ℕ) → day < day_count c → f day ≡ g day) where
  pub best_over_same : best_over c n f ≡ best_over c n g
  best_over_same = best_from_same (offer_transition c n) (end_cost_of c n) f g (day_count c) 0 (summary_of c n []) (λ day low high. same day (omega (arith, high)))

  pub best_over_same_at : (scale : ℕ) → best_over_at c n scale f ≡ best_over_at c n scale g
  best_over_same_at scale = best_from_same (offer_transition_at c n scale) (end_cost_at c n scale) f g (day_count c) 0 (summary_of c n []) (λ day low high. same day (omega (arith, high)))
