-- At scale 1 the search is the one in whole points.
use Rattle.std.proofs.Common.{◌≡◌, ◌*◌, ℕ, List, Option, Some, None, [], ap, arith, refl}
use Rattle.roster_instance.specs.Choices.{shift_of}
use Rattle.roster_instance.specs.Meaning.{Meaning, day_count}
use Rattle.roster_rules.specs.Prefix.{Summary, summary_of}
use Rattle.roster_state.specs.Transition.{end_cost_of, transition_of}
use Rattle.roster_offers.specs.declared.offer.Offer.{Offer}
use Rattle.roster_offers.specs.ByStates.{best_from}
use Rattle.roster_offers.specs.Offers.{best_of_offers, best_of_offers_at, dearer, offer_transition, offer_transition_at, scaled}
use Rattle.roster_offers.specs.Lists.{best_over, best_over_at}

pub once : (k : ℕ) → 1 * k ≡ k
once k = omega arith

scaled_one : {S : Type 0} (o : Option (S × ℕ)) → scaled 1 o ≡ o
scaled_one None = refl
scaled_one (Some (s, k)) = ap (λ cost. Some (s, cost)) (once k)

transition_one : (c : Meaning) (n d : ℕ) (s : Summary) (x : Offer) → offer_transition_at c n 1 d s x ≡ offer_transition c n d s x
transition_one c n d s x = ap (dearer x.price) (scaled_one (transition_of c n d s (shift_of x.choice)))

pub best_one : (c : Meaning) (n : ℕ) (offers : ℕ → List Offer) (m d : ℕ) (s : Summary) → best_of_offers_at c n 1 offers m d s ≡ best_of_offers c n offers m d s
best_one c n offers m d s = λ i. best_from offers (λ e t x. transition_one c n e t x i) (λ t. once (end_cost_of c n t) i) m d s

pub best_over_one : (c : Meaning) (n : ℕ) (offers : ℕ → List Offer) → best_over_at c n 1 offers ≡ best_over c n offers
best_over_one c n offers = best_one c n offers (day_count c) 0 (summary_of c n [])
