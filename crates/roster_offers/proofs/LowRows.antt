-- Labels in whole points are low.
use Rattle.std.proofs.Common.{◌≡◌, ◌+◌, ◌*◌, ◌<◌, ◌≤◌, ◌⊎◌, ℕ, zero, suc, All, Bool, List, Option, Some, None, [], ◌∷◌, ap, arith, false, if◌then◌else◌, inl, inr, nat_lt, refl, true}
use Rattle.std.specs.Prelude.{IfSome}
use Rattle.std.proofs.Math.Nat.{suc-mul}
use Rattle.std.proofs.lemmas.List.Elements.{All-head, All-tail, All-weaker}
use Rattle.std.proofs.lemmas.Nat.{mul-le}
use Rattle.roster_instance.specs.Choices.{shift_of}
use Rattle.roster_instance.specs.Limits.{most_days}
use Rattle.roster_instance.specs.declared.choice.Shift.{Shift}
use Rattle.roster_instance.specs.Meaning.{Meaning, forbids}
use Rattle.roster_instance.specs.Small.{HasSmallNumbers}
use Rattle.roster_rules.specs.Prefix.{Summary}
use Rattle.roster_state.specs.MostCosts.{most_at_end, most_of_transition}
use Rattle.roster_state.specs.Transition.{next_of, transition_cost, transition_of}
use Rattle.roster_state.proofs.TransitionBounds.{transition_within}
use Rattle.roster_offers.specs.declared.offer.Offer.{Offer}
use Rattle.roster_offers.specs.ByStates.{best_after}
use Rattle.roster_offers.specs.Cheapest.{Priced, cheaper, cheapest, raised}
use Rattle.roster_offers.specs.Offers.{best_of_offers, dearer, offer_transition}
use Rattle.roster_offers.specs.Lists.{IsOfferOf, most_label, most_label_unkept, most_price, most_price_unkept, no_row}
use Rattle.roster_offers.proofs.Cheapest.{cost_or}

-- ---- the cheapest of some things is one of them

one_of_both : {X : Type 0} (p q : Priced X) (best : ℕ × X) → cheaper p q ≡ Some best → (p ≡ Some best) ⊎ (q ≡ Some best)
one_of_both None q best is = inr is
one_of_both (Some p) None best is = inl is
one_of_both (Some p) (Some q) best is = go (nat_lt q.0 p.0) is
  where
    go : (b : Bool) → (if b then Some q else Some p) ≡ Some best → (Some p ≡ Some best) ⊎ (Some q ≡ Some best)
    go true e = inr e
    go false e = inl e

pub one_of_all : {Y X : Type 0} (f : Y → Priced X) (P : Y → Type 0) (ys : List Y) (best : ℕ × X) → All P ys → cheapest f ys ≡ Some best → (y : Y) × P y × (f y ≡ Some best)
one_of_all f P [] best all is = absurd cc
one_of_all f P (y ∷ ys) best all is = elim (one_of_both (f y) (cheapest f ys) best is) [
  | inl here ↦ (y, All-head P y ys all, here)
  | inr there ↦ one_of_all f P ys best (All-tail P y ys all) there
]

-- ---- labels, whatever the state is

-- the greatest cost of this number of days and of the end, if no offer costs more than `most`
abbrev most_of : (most m : ℕ) → ℕ
most_of most m = m * (most + most_of_transition) + most_at_end

abbrev transition_cost_of : Option (Summary × ℕ) → ℕ
transition_cost_of None = 0
transition_cost_of (Some t) = t.1

pub transition_low : (c : Meaning) → HasSmallNumbers c → (n d : ℕ) (s : Summary) (shift : Option Shift) (t : Summary × ℕ) → transition_of c n d s shift ≡ Some t → t.1 ≤ most_of_transition
transition_low c small n d s shift t is = go (forbids c.successions s.last shift) is
  where
    go : (b : Bool) → (if b then None else Some (next_of c n d s shift, transition_cost c n d s shift)) ≡ Some t → t.1 ≤ most_of_transition
    go true e = absurd cc
    go false e = let same : transition_cost c n d s shift ≡ t.1 = ap transition_cost_of e in omega (arith, same, transition_within c n d s shift small)

module _ (c : Meaning) (small : HasSmallNumbers c) (n : ℕ) (offers : ℕ → List Offer) (most : ℕ) (cheap : (d : ℕ) → All (λ x. x.price ≤ most) (offers d)) where
  -- an offer, a transition and what comes after them
  one_day : (m d : ℕ) (s : Summary) (x : Offer) (rest : Summary → Priced (List Offer)) (best : ℕ × List Offer) → x.price ≤ most → ((t : Summary) → IfSome (rest t) (λ p. p.0 ≤ most_of most m))
      → best_after x (offer_transition c n d s x) rest ≡ Some best → best.0 ≤ most_of most (suc m)
  one_day m d s x rest best low later is = go (transition_of c n d s (shift_of x.choice)) refl is
    where
      after : (more : ℕ) (o : Priced (List Offer)) → more ≤ most + most_of_transition → IfSome o (λ p. p.0 ≤ most_of most m) → raised more (λ xs. x ∷ xs) o ≡ Some best → best.0 ≤ most_of most (suc m)
      after more None few low_after e = absurd cc
      after more (Some p) few low_after e =
          let total : more + p.0 ≡ best.0 = ap (cost_or 0) e in
          omega (arith, low_after, total, few, suc-mul m (most + most_of_transition))

      go : (o : Option (Summary × ℕ)) → transition_of c n d s (shift_of x.choice) ≡ o → best_after x (dearer x.price o) rest ≡ Some best → best.0 ≤ most_of most (suc m)
      go None stepped e = absurd cc
      go (Some t) stepped e = after (x.price + t.1) (rest t.0) (omega (arith, low, transition_low c small n d s (shift_of x.choice) t stepped)) (later t.0) e

  low_from : (m d : ℕ) (s : Summary) → IfSome (best_of_offers c n offers m d s) (λ label. label.0 ≤ most_of most m)
  low_from zero d s = omega (arith, (small.contracts n).total.least)
  low_from (suc m) d s = go (best_of_offers c n offers (suc m) d s) refl (low_from m (suc d))
    where
      go : (o : Priced (List Offer)) → best_of_offers c n offers (suc m) d s ≡ o → ((t : Summary) → IfSome (best_of_offers c n offers m (suc d) t) (λ p. p.0 ≤ most_of most m)) → IfSome o (λ label. label.0 ≤ most_of most (suc m))
      go None is later = tt
      go (Some best) is later =
          let one = one_of_all (λ x. best_after x (offer_transition c n d s x) (best_of_offers c n offers m (suc d))) (λ x. x.price ≤ most) (offers d) best (cheap d) is in
          one_day m d s one.0 (best_of_offers c n offers m (suc d)) best one.1 later one.2

  low_within : (m d : ℕ) → m ≤ most_days → (s : Summary) → IfSome (best_of_offers c n offers m d s) (λ label. label.0 ≤ most_of most most_days)
  low_within m d few s = go (best_of_offers c n offers m d s) (low_from m d s)
    where
      go : (o : Priced (List Offer)) → IfSome o (λ label. label.0 ≤ most_of most m) → IfSome o (λ label. label.0 ≤ most_of most most_days)
      go None low = tt
      go (Some label) low = omega (arith, low, mul-le m (most + most_of_transition) most_days (most + most_of_transition) few (omega arith))

-- whatever the offers of the case are
pub label_low : (c : Meaning) → HasSmallNumbers c → (n : ℕ) (offers : ℕ → List Offer) → ((d : ℕ) → All (IsOfferOf c) (offers d)) → (m d : ℕ) → m ≤ most_days → (s : Summary) → IfSome (best_of_offers c n offers m d s) (λ label. (label.0 ≤ most_label) × (label.0 < no_row))
label_low c small n offers of_case m d few s = go (best_of_offers c n offers m d s) (low_within c small n offers most_price cheap m d few s)
  where
    cheap : (day : ℕ) → All (λ x. x.price ≤ most_price) (offers day)
    cheap day = All-weaker (IsOfferOf c) (λ x. x.price ≤ most_price) (λ x of. omega (arith, of.price)) (offers day) (of_case day)

    go : (o : Priced (List Offer)) → IfSome o (λ label. label.0 ≤ most_of most_price most_days) → IfSome o (λ label. (label.0 ≤ most_label) × (label.0 < no_row))
    go None low = tt
    go (Some label) low = (omega (arith, low), omega (arith, low))

-- if no price includes points for a change
pub label_unkept : (c : Meaning) → HasSmallNumbers c → (n : ℕ) (offers : ℕ → List Offer) → ((d : ℕ) → All (λ x. x.price ≤ most_price_unkept) (offers d)) → (m d : ℕ) → m ≤ most_days → (s : Summary) → IfSome (best_of_offers c n offers m d s) (λ label. label.0 ≤ most_label_unkept)
label_unkept c small n offers cheap m d few s = go (best_of_offers c n offers m d s) (low_within c small n offers most_price_unkept cheap m d few s)
  where
    go : (o : Priced (List Offer)) → IfSome o (λ label. label.0 ≤ most_of most_price_unkept most_days) → IfSome o (λ label. label.0 ≤ most_label_unkept)
    go None low = tt
    go (Some label) low = omega (arith, low)

pub record LowRow {X : Type 0} (p : Priced X) : Type 0 where
  pub row : ℕ × X
  pub is : p ≡ Some row
  pub low : row.0 < no_row
