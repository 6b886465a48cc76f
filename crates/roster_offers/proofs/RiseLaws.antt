-- If the prices of all offers have risen, so has the cost of the best row.
use Rattle.std.proofs.Common.{◌≡◌, ◌∙◌, ◌+◌, ◌<◌, ◌≤◌, ◌⊎◌, ℕ, suc, zero, inl, inr, ap, arith, refl, subst, sym, List, [], ◌∷◌, Option, Some, None, Contains}
use Rattle.std.specs.Prelude.{All, IsSomeAnd}
use Rattle.std.proofs.lemmas.Bool.{cases_lt}
use Rattle.std.proofs.lemmas.List.Elements.{All-head, All-tail}
use Rattle.roster_instance.specs.declared.choice.Shift.{Shift}
use Rattle.roster_instance.specs.Choices.{shift_of}
use Rattle.roster_instance.specs.Counting.{sum_below}
use Rattle.roster_instance.specs.Meaning.{Meaning, day_count}
use Rattle.roster_rules.specs.Prefix.{Summary, summary_of}
use Rattle.roster_state.specs.Transition.{transition_of}
use Rattle.roster_offers.specs.declared.offer.Offer.{Offer}
use Rattle.roster_offers.specs.ByStates.{best_after}
use Rattle.roster_offers.specs.Cheapest.{Priced, cheaper, cheapest, raised}
use Rattle.roster_offers.specs.Offers.{best_of_offers, dearer, offer_transition}
use Rattle.roster_offers.specs.Rises.{AllHaveRisen, HasRisen}
use Rattle.roster_offers.specs.Lists.{best_over}
use Rattle.roster_offers.proofs.Cheapest.{cost_or, keeps_first, takes_second}

-- ---- the cheapest is one of all, and none costs less

-- there is one, and with its cost raised by `more` it costs at most k
abbrev pub AtMost : {X : Type 0} → (more k : ℕ) → Priced X → Type 0
AtMost more k p = IsSomeAnd p (λ best. best.0 + more ≤ k)

pub one_of_both : {X : Type 0} (p q : Priced X) (r : ℕ × X) → cheaper p q ≡ Some r → (p ≡ Some r) ⊎ (q ≡ Some r)
one_of_both None q r is = inr is
one_of_both (Some p) None r is = inl is
one_of_both (Some p) (Some q) r is = elim (cases_lt q.0 p.0) [
  | inl h ↦ inr (sym (takes_second p q h) ∙ is)
  | inr h ↦ inl (sym (keeps_first p q h) ∙ is)
]

pub chosen : {Y X : Type 0} (f : Y → Priced X) (P : Y → Type 0) (ys : List Y) → All P ys → (r : ℕ × X) → cheapest f ys ≡ Some r → (y : Y) × P y × (f y ≡ Some r)
chosen f P [] all r is = absurd cc
chosen f P (y ∷ ys) all r is = elim (one_of_both (f y) (cheapest f ys) r is) [
  | inl here ↦ (y, All-head P y ys all, here)
  | inr there ↦ chosen f P ys (All-tail P y ys all) r there
]

module _ {X : Type 0} (more k : ℕ) where
  pub low_first : (p q : Priced X) → AtMost more k p → AtMost more k (cheaper p q)
  low_first None q low = absurd low
  low_first (Some p) None low = low
  low_first (Some p) (Some q) low = elim (cases_lt q.0 p.0) [
    | inl h ↦ subst (AtMost more k) (sym (takes_second p q h)) (omega (arith, h, low))
    | inr h ↦ subst (AtMost more k) (sym (keeps_first p q h)) low
  ]

  pub low_second : (p q : Priced X) → AtMost more k q → AtMost more k (cheaper p q)
  low_second None q low = low
  low_second (Some p) None low = absurd low
  low_second (Some p) (Some q) low = elim (cases_lt q.0 p.0) [
    | inl h ↦ subst (AtMost more k) (sym (takes_second p q h)) low
    | inr h ↦ subst (AtMost more k) (sym (keeps_first p q h)) (omega (arith, h, low))
  ]

  lowest : {Y : Type 0} (f : Y → Priced X) (ys : List Y) (y : Y) → Contains ys y → AtMost more k (f y) → AtMost more k (cheapest f ys)
  lowest f [] y (index, inside, is) low = absurd (omega (arith, inside))
  lowest f (x ∷ ys) y (zero, inside, is) low = low_first (f x) (cheapest f ys) (subst (λ z. AtMost more k (f z)) (sym is) low)
  lowest f (x ∷ ys) y (suc index, inside, is) low = low_second (f x) (cheapest f ys) (lowest f ys y (index, omega (arith, inside), is) low)

-- ---- an offer and the best row after it, by the earlier offer for the same shift

module _ (x y : Offer) (new_rest old_rest : Summary → Priced (List Offer)) (more later_more : ℕ) (cost later_cost : ℕ → ℕ) where
  rise_by : (later : (t : Summary) (k : ℕ) (row : List Offer) → new_rest t ≡ Some (k, row) → AtMost later_more (later_cost k) (old_rest t)) → ((k : ℕ) (best : ℕ) → best + later_more ≤ later_cost k → (transition : ℕ) → y.price + transition + best + more ≤ cost (x.price + transition + k))
      → (o : Option (Summary × ℕ)) (k : ℕ) (row : List Offer) → best_after x (dearer x.price o) new_rest ≡ Some (k, row) → AtMost more (cost k) (best_after y (dearer y.price o) old_rest)
  rise_by later risen None k row is = absurd cc
  rise_by later risen (Some t) k row is = go (new_rest t.0) refl is
    where
      old_row : (j : ℕ) (o : Priced (List Offer)) → AtMost later_more (later_cost j) o → AtMost more (cost (x.price + t.1 + j)) (raised (y.price + t.1) (λ ys. y ∷ ys) o)
      old_row j None low = absurd low
      old_row j (Some best) low = risen j best.0 low t.1

      go : (o : Priced (List Offer)) → new_rest t.0 ≡ o → raised (x.price + t.1) (λ xs. x ∷ xs) o ≡ Some (k, row) → AtMost more (cost k) (raised (y.price + t.1) (λ ys. y ∷ ys) (old_rest t.0))
      go None e none = absurd cc
      go (Some p) e some =
          subst (λ j. AtMost more (cost j) (raised (y.price + t.1) (λ ys. y ∷ ys) (old_rest t.0))) (ap (cost_or 0) some) (old_row p.0 (old_rest t.0) (later t.0 p.0 p.1 e))

-- ---- all days

module _ (c : Meaning) (n : ℕ) (old new : ℕ → List Offer) (rise fall : ℕ → ℕ) where
  -- the old best row from a day on, compared with what the new one costs
  abbrev Rises : (m d : ℕ) → Summary → ℕ → Type 0
  Rises m d s cost = AtMost (sum_below (d + m) rise + sum_below d fall) (cost + sum_below (d + m) fall + sum_below d rise) (best_of_offers c n old m d s)

  risen_from : (m d : ℕ) → ((k : ℕ) → d ≤ k → k < d + m → AllHaveRisen (rise k) (fall k) (old k) (new k)) → (s : Summary) (cost : ℕ) (row : List Offer) → best_of_offers c n new m d s ≡ Some (cost, row) → Rises m d s cost
  risen_from zero d risen s cost row is =
      let ends : d + zero ≡ d = omega arith in
      omega (arith, ap (cost_or 0) is, ap (λ e. sum_below e rise) ends, ap (λ e. sum_below e fall) ends)
  risen_from (suc m) d risen s cost row is =
      let found = chosen (λ x. best_after x (offer_transition c n d s x) (best_of_offers c n new m (suc d))) (HasRisen (rise d) (fall d) (old d)) (new d) (risen d (omega arith) (omega arith)) (cost, row) is in
      let x = found.0 in
      let y = found.1.before in
      let transition : Option Shift → Option (Summary × ℕ) = transition_of c n d s in
      let next : d + suc m ≡ suc d + m = omega arith in
      let later = risen_from m (suc d) (λ k low high. risen k (omega (arith, low)) (omega (arith, high))) in
      let low = rise_by x y (best_of_offers c n new m (suc d)) (best_of_offers c n old m (suc d)) (sum_below (d + suc m) rise + sum_below d fall) (sum_below (suc d + m) rise + sum_below (suc d) fall) (λ k. k + sum_below (d + suc m) fall + sum_below d rise) (λ k. k + sum_below (suc d + m) fall + sum_below (suc d) rise)
      later (λ k best h j. omega (arith, h, found.1.price, ap (λ e. sum_below e rise) next, ap (λ e. sum_below e fall) next)) (transition (shift_of x.choice)) cost row found.2 in
      lowest (sum_below (d + suc m) rise + sum_below d fall) (cost + sum_below (d + suc m) fall + sum_below d rise) (λ o. best_after o (offer_transition c n d s o) (best_of_offers c n old m (suc d))) (old d) y found.1.among
      (subst (λ (o : Option Shift). AtMost (sum_below (d + suc m) rise + sum_below d fall) (cost + sum_below (d + suc m) fall + sum_below d rise) (best_after y (dearer y.price (transition o)) (best_of_offers c n old m (suc d)))) (sym found.1.shift) low)

  pub cost_has_risen : ((d : ℕ) → d < day_count c → AllHaveRisen (rise d) (fall d) (old d) (new d)) → (cost : ℕ) (row : List Offer) → best_over c n new ≡ Some (cost, row)
      → IsSomeAnd (best_over c n old) (λ best. best.0 + sum_below (day_count c) rise ≤ cost + sum_below (day_count c) fall)
  cost_has_risen risen cost row is = go (best_over c n old) (risen_from (day_count c) 0 (λ k low high. risen k (omega (arith, high))) (summary_of c n []) cost row is)
    where
      all : 0 + day_count c ≡ day_count c
      all = omega arith

      go : (o : Priced (List Offer)) → AtMost (sum_below (0 + day_count c) rise + 0) (cost + sum_below (0 + day_count c) fall + 0) o → IsSomeAnd o (λ best. best.0 + sum_below (day_count c) rise ≤ cost + sum_below (day_count c) fall)
      go None low = absurd low
      go (Some best) low = omega (arith, low, ap (λ e. sum_below e rise) all, ap (λ e. sum_below e fall) all)
