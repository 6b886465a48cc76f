-- A row is found exactly if one leads through the offers.
use Rattle.std.proofs.Common.{◌≡◌, ◌∙◌, ◌+◌, ◌-◌, ◌<◌, ◌≤◌, ◌&&◌, ◌||◌, ℕ, zero, suc, Bool, true, false, not, inl, inr, ap, ap₂, arith, refl, sym, List, [], ◌∷◌, length, Option, Some, None, is_some, if◌then◌else◌, nat_lt, slice_index_or, subst}
use Rattle.std.specs.List.{All, list_any}
use Rattle.std.proofs.lemmas.Bool.{and_parts, cases_eq, true≢false}
use Rattle.std.proofs.lemmas.List.Elements.{All-tail}
use Rattle.roster_instance.specs.declared.choice.Shift.{Shift}
use Rattle.roster_instance.specs.Choices.{shift_of}
use Rattle.roster_instance.specs.Limits.{most_shifts}
use Rattle.roster_instance.specs.Meaning.{Meaning, forbids, last_shift, past_of}
use Rattle.roster_rules.specs.Prefix.{Summary, summary_of}
use Rattle.roster_state.specs.Transition.{next_of, transition_cost}
use Rattle.roster_offers.specs.Cheapest.{Priced, cheaper, cheapest, raised}
use Rattle.roster_offers.specs.ByStates.{best_after}
use Rattle.roster_offers.specs.Offers.{best_of_offers, dearer, offer_transition}
use Rattle.roster_offers.specs.declared.offer.Offer.{Offer}
use Rattle.roster_who.specs.Ways.{AreWays, goes_on, last_at, last_index, leads_on}

some-cheaper : {X : Type 0} (p q : Priced X) → is_some (cheaper p q) ≡ (is_some p || is_some q)
some-cheaper None q = refl
some-cheaper (Some p) None = refl
some-cheaper (Some p) (Some q) = go (nat_lt q.0 p.0)
  where
    go : (b : Bool) → is_some (if b then Some q else Some p) ≡ true
    go true = refl
    go false = refl

any-cheapest : {Y X : Type 0} (f : Y → Priced X) (t : Y → Bool) → ((y : Y) → is_some (f y) ≡ t y) → (ys : List Y) → is_some (cheapest f ys) ≡ list_any t ys
any-cheapest f t each [] = refl
any-cheapest f t each (y ∷ ys) = some-cheaper (f y) (cheapest f ys) ∙ ap₂ (λ a b. a || b) (each y) (any-cheapest f t each ys)

some-raised : {Z X : Type 0} (k : ℕ) (g : Z → X) (p : Priced Z) → is_some (raised k g p) ≡ is_some p
some-raised k g None = refl
some-raised k g (Some p) = refl

next_last : (c : Meaning) (n d : ℕ) (s : Summary) (shift : Option Shift) → (next_of c n d s shift).last ≡ shift
unfolding next_of
next_last c n d s shift = refl

pub first_last : (c : Meaning) (n : ℕ) → (summary_of c n []).last ≡ last_shift (past_of c n).border
unfolding summary_of
first_last c n = refl

module _ (c : Meaning) (n : ℕ) (offers : ℕ → List Offer) where
  by_one : (x : Offer) (t : Summary) (cost : ℕ) (rest : Summary → Priced (List Offer)) (on : Bool) (b : Bool) → is_some (rest t) ≡ on
      → is_some (best_after x (dearer x.price (if b then None else Some (t, cost))) rest) ≡ (not b && on)
  by_one x t cost rest on true is = refl
  by_one x t cost rest on false is = some-raised (x.price + cost) (λ xs. x ∷ xs) (rest t) ∙ is

  pub some_where_leads : (m d : ℕ) (s : Summary) → is_some (best_of_offers c n offers m d s) ≡ leads_on c offers m d s.last
  some_where_leads zero d s = refl
  some_where_leads (suc m) d s =
      any-cheapest (λ x. best_after x (offer_transition c n d s x) (best_of_offers c n offers m (suc d)))
      (λ x. not (forbids c.successions s.last (shift_of x.choice)) && leads_on c offers m (suc d) (shift_of x.choice))
      (λ x. by_one x (next_of c n d s (shift_of x.choice)) (transition_cost c n d s (shift_of x.choice)) (best_of_offers c n offers m (suc d)) (leads_on c offers m (suc d) (shift_of x.choice)) (forbids c.successions s.last (shift_of x.choice))
      (some_where_leads m (suc d) (next_of c n d s (shift_of x.choice)) ∙ ap (leads_on c offers m (suc d)) (next_last c n d s (shift_of x.choice))))
      (offers d)

-- ---- then each day has an offer

first_passes : {X : Type 0} (p : X → Bool) (x : X) (xs : List X) (b : Bool) → p x ≡ b → (b || list_any p xs) ≡ true → (list_any p xs ≡ true → (y : X) × (p y ≡ true)) → (y : X) × (p y ≡ true)
first_passes p x xs true is e later = (x, is)
first_passes p x xs false is e later = later e

any_passes : {X : Type 0} (p : X → Bool) (xs : List X) → list_any p xs ≡ true → (y : X) × (p y ≡ true)
any_passes p [] e = absurd (true≢false (sym e))
any_passes p (x ∷ xs) e = first_passes p x xs (p x) refl e (any_passes p xs)

any_some : {X : Type 0} (p : X → Bool) (xs : List X) → list_any p xs ≡ true → 0 < length xs
any_some p [] e = absurd (true≢false (sym e))
any_some p (x ∷ xs) e = omega arith

pub leads_some : (c : Meaning) (offers : ℕ → List Offer) (m d : ℕ) (last : Option Shift) → leads_on c offers m d last ≡ true → (k : ℕ) → d ≤ k → k < d + m → 0 < length (offers k)
leads_some c offers zero d last leads k from before = absurd (omega (arith, from, before))
leads_some c offers (suc m) d last leads k from before =
    let goes : Offer → Bool = λ x. not (forbids c.successions last (shift_of x.choice)) && leads_on c offers m (suc d) (shift_of x.choice) in
    let found : (x : Offer) × (goes x ≡ true) = any_passes goes (offers d) leads in
    let onward : leads_on c offers m (suc d) (shift_of found.0.choice) ≡ true = (and_parts (not (forbids c.successions last (shift_of found.0.choice))) (leads_on c offers m (suc d) (shift_of found.0.choice)) found.1).1 in
    elim (cases_eq k d) [
      | inl same ↦ omega (arith, any_some goes (offers d) leads, ap (λ j. length (offers j)) same)
      | inr other ↦ leads_some c offers m (suc d) (shift_of found.0.choice) onward k (omega (arith, from, other)) (omega (arith, before))
    ]

-- ---- a table of last shifts

pub last_at-index : (last : Option Shift) → last_at (last_index last) ≡ last
last_at-index None = refl
last_at-index (Some shift) = go (shift.0 + 1) (omega arith)
  where
    go : (m : ℕ) → m ≡ suc shift.0 → last_at m ≡ Some shift
    go zero e = absurd (omega (arith, e))
    go (suc k) e = let same : k ≡ shift.0 = omega (arith, e) in ap (λ j. Some (record { 0 = j })) same

module _ (c : Meaning) (offers : ℕ → List Offer) where
  by_offers : (m d : ℕ) (after : List Bool) → AreWays c offers m (suc d) after → (last : Option Shift) (xs : List Offer) → All (λ offer. last_index (shift_of offer.choice) < 1 + most_shifts) xs
      → goes_on c xs after last ≡ list_any (λ x. not (forbids c.successions last (shift_of x.choice)) && leads_on c offers m (suc d) (shift_of x.choice)) xs
  by_offers m d after gathered last [] places = refl
  by_offers m d after gathered last (x ∷ xs) places =
      ap₂ (λ a b. (not (forbids c.successions last (shift_of x.choice)) && a) || b) (gathered (shift_of x.choice) (places 0 x (omega arith)))
      (by_offers m d after gathered last xs (All-tail (λ (offer : Offer). last_index (shift_of offer.choice) < 1 + most_shifts) x xs places))

  one_day : (m d : ℕ) (after new : List Bool) → AreWays c offers m (suc d) after → All (λ offer. last_index (shift_of offer.choice) < 1 + most_shifts) (offers d)
      → ((at : ℕ) → at < 1 + most_shifts → slice_index_or new at false ≡ goes_on c (offers d) after (last_at at)) → AreWays c offers (suc m) d new
  one_day m d after new gathered places new_is last inside =
      new_is (last_index last) inside ∙ ap (goes_on c (offers d) after) (last_at-index last) ∙ by_offers m d after gathered last (offers d) places

  -- the day before
  pub ways_more : (days m d : ℕ) (after new : List Bool) → m < days → d ≡ days - 1 - m → AreWays c offers m (days - m) after → All (λ offer. last_index (shift_of offer.choice) < 1 + most_shifts) (offers d)
      → ((at : ℕ) → at < 1 + most_shifts → slice_index_or new at false ≡ goes_on c (offers d) after (last_at at)) → AreWays c offers (m + 1) (days - (m + 1)) new
  ways_more days m d after new within is gathered places new_is last inside =
      let before : days - m ≡ suc d = omega (arith, within, is) in
      let here : d ≡ days - (m + 1) = omega (arith, within, is) in
      let more : suc m ≡ m + 1 = omega arith in
      one_day m d after new (subst (λ k. AreWays c offers m k after) before gathered) places new_is last inside ∙ (λ i. leads_on c offers (more i) (here i) last)
