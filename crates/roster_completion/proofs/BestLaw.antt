-- What holds of each best row: of the empty one after the last day, and of an offer's with what follows, day
-- by day.
use Rattle.std.proofs.Common.{◌≡◌, ◌+◌, ◌*◌, ◌<◌, ℕ, suc, zero, Bool, true, false, arith, refl, subst, List, [], ◌∷◌, Option, Some, None, if◌then◌else◌}
use Rattle.std.specs.Prelude.{All}
use Rattle.roster_instance.specs.declared.choice.Shift.{Shift}
use Rattle.roster_instance.specs.Choices.{shift_of}
use Rattle.roster_instance.specs.Meaning.{Meaning, day_count, forbids}
use Rattle.roster_rules.specs.Prefix.{Summary}
use Rattle.roster_state.specs.Transition.{next_of, transition_cost}
use Rattle.roster_offers.specs.declared.offer.Offer.{Offer}
use Rattle.roster_offers.specs.ByStates.{best_after}
use Rattle.roster_offers.specs.Cheapest.{Priced, raised}
use Rattle.roster_offers.specs.Offers.{best_of_offers_at, dearer, offer_transition_at, scaled}
use Rattle.roster_offers.proofs.Cheapest.{cost_or, thing_or}
use Rattle.roster_offers.proofs.RiseLaws.{chosen}

-- the state after a day is one after its shift
pub last_of_next : (c : Meaning) (n d : ℕ) (s : Summary) (shift : Option Shift) → (next_of c n d s shift).last ≡ shift
unfolding next_of
last_of_next c n d s shift = refl

module _ (c : Meaning) (n scale : ℕ) (offers : ℕ → List Offer) (Q : ℕ → Offer → Type 0) (of_offers : (d : ℕ) → d < day_count c → All (Q d) (offers d)) (P : (m d : ℕ) → Summary → (cost : ℕ) → List Offer → Type 0)
    (ended : (d : ℕ) (s : Summary) → d ≡ day_count c → P 0 d s (cost_or 0 (best_of_offers_at c n scale offers 0 d s)) [])
    (begun : (m d : ℕ) (s : Summary) (x : Offer) (cost : ℕ) (row : List Offer) → suc m + d ≡ day_count c → Q d x → forbids c.successions s.last (shift_of x.choice) ≡ false
    → P m (suc d) (next_of c n d s (shift_of x.choice)) cost row → P (suc m) d s (x.price + scale * transition_cost c n d s (shift_of x.choice) + cost) (x ∷ row)) where
  module _ (m d : ℕ) (s : Summary) (x : Offer) (days : suc m + d ≡ day_count c) (good : Q d x) where
    abbrev next : Summary
    next = next_of c n d s (shift_of x.choice)

    abbrev step : ℕ
    step = transition_cost c n d s (shift_of x.choice)

    by_offer : (forbidden : Bool) → forbids c.successions s.last (shift_of x.choice) ≡ forbidden → ((cost : ℕ) (row : List Offer) → best_of_offers_at c n scale offers m (suc d) next ≡ Some (cost, row) → P m (suc d) next cost row)
        → (cost : ℕ) (row : List Offer) → best_after x (dearer x.price (scaled scale (if forbidden then None else Some (next, step)))) (best_of_offers_at c n scale offers m (suc d)) ≡ Some (cost, row) → P (suc m) d s cost row
    by_offer true is after cost row best = absurd cc
    by_offer false is after cost row best = go (best_of_offers_at c n scale offers m (suc d) next) refl best
      where
        go : (o : Priced (List Offer)) → best_of_offers_at c n scale offers m (suc d) next ≡ o → raised (x.price + scale * step) (λ xs. x ∷ xs) o ≡ Some (cost, row) → P (suc m) d s cost row
        go None e none = absurd cc
        go (Some p) e some = subst (λ (o : Priced (List Offer)). P (suc m) d s (cost_or 0 o) (thing_or [] o)) some (begun m d s x p.0 p.1 days good is (after p.0 p.1 e))

  pub by_days : (m d : ℕ) (s : Summary) → m + d ≡ day_count c → (cost : ℕ) (row : List Offer) → best_of_offers_at c n scale offers m d s ≡ Some (cost, row) → P m d s cost row
  by_days zero d s days cost row is = subst (λ (o : Priced (List Offer)). P 0 d s (cost_or 0 o) (thing_or [] o)) is (ended d s (omega (arith, days)))
  by_days (suc m) d s days cost row is =
      let found = chosen (λ x. best_after x (offer_transition_at c n scale d s x) (best_of_offers_at c n scale offers m (suc d))) (Q d) (offers d) (of_offers d (omega (arith, days))) (cost, row) is in
      by_offer m d s found.0 days found.1 (forbids c.successions s.last (shift_of found.0.choice)) refl (by_days m (suc d) (next_of c n d s (shift_of found.0.choice)) (omega (arith, days))) cost row found.2
