-- The cheapest of all rows is found by states.
use Rattle.std.proofs.Common.{◌≡◌, ◌∙◌, ◌+◌, ℕ, zero, suc, Bool, ap, arith, refl, sym, List, [], ◌∷◌, filter, length, map, Option, Some, None, if◌then◌else◌}
use Rattle.std.specs.List.{flat_map}
use Rattle.roster_instance.specs.Choices.{all_rows}
use Rattle.roster_offers.specs.Cheapest.{Priced, cheaper, cheapest, raised, with_cost}
use Rattle.roster_offers.specs.ByStates.{Transitions, best_after, best_from, cost_after, cost_from, rows_from}
use Rattle.roster_offers.proofs.Cheapest.{cheapest_filter, cheapest_flat, cheapest_map, cheapest_none, cheapest_raised, cost-raised, raised_twice}

-- ---- all rows

-- if each day has the same items
pub rows-all_rows : {X : Type 0} (items : List X) (m d : ℕ) → all_rows items m ≡ rows_from (λ k. items) m d
unfolding all_rows rows_from
rows-all_rows items zero d = refl
rows-all_rows items (suc m) d = ap (λ rows. flat_map (λ first. map (λ rest. first ∷ rest) rows) items) (rows-all_rows items m (suc d))

module _ {X Z : Type 0} (items : ℕ → List X) where
  rows_by_head : (f : List X → Priced Z) (m d : ℕ) → cheapest f (rows_from items (suc m) d) ≡ cheapest (λ x. cheapest (λ xs. f (x ∷ xs)) (rows_from items m (suc d))) (items d)
  unfolding rows_from
  rows_by_head f m d =
      cheapest_flat f (λ x. map (λ xs. x ∷ xs) (rows_from items m (suc d))) (items d)
      ∙ (λ i. cheapest (λ x. cheapest_map f (λ (xs : List _). x ∷ xs) (rows_from items m (suc d)) i) (items d))

  -- costs that agree on the rows of this length have the same cheapest row
  pub rows_agree : (m d : ℕ) (f g : List X → Priced Z) → ((xs : List X) → length xs ≡ m → f xs ≡ g xs) → cheapest f (rows_from items m d) ≡ cheapest g (rows_from items m d)
  unfolding rows_from
  rows_agree zero d f g same = λ i. cheaper (same [] refl i) None
  rows_agree (suc m) d f g same =
      rows_by_head f m d
      ∙ (λ i. cheapest (λ x. rows_agree m (suc d) (λ xs. f (x ∷ xs)) (λ xs. g (x ∷ xs)) (λ xs e. same (x ∷ xs) (ap suc e)) i) (items d))
      ∙ sym (rows_by_head g m d)

-- ---- the labels

module _ {S X : Type 0} (items : ℕ → List X) (transition : Transitions S X) (finish : S → ℕ) where
  abbrev priced : ℕ → S → List X → Priced (List X)
  priced d s xs = with_cost xs (cost_from transition finish d s xs)

  after : (x : X) (o : Option (S × ℕ)) (d m : ℕ) → ((s : S) → cheapest (priced d s) (rows_from items m d) ≡ best_from items transition finish m d s)
      → cheapest (λ xs. with_cost (x ∷ xs) (cost_after o (λ t. cost_from transition finish d t xs))) (rows_from items m d) ≡ best_after x o (best_from items transition finish m d)
  after x None d m best = cheapest_none (rows_from items m d)
  after x (Some t) d m best =
      (λ i. cheapest (λ xs. cost-raised t.1 (λ (ys : List X). x ∷ ys) xs (cost_from transition finish d t.0 xs) i) (rows_from items m d))
      ∙ cheapest_raised t.1 (λ ys. x ∷ ys) (priced d t.0) (rows_from items m d)
      ∙ ap (raised t.1 (λ ys. x ∷ ys)) (best t.0)

  pub cheapest_row : (m d : ℕ) (s : S) → cheapest (priced d s) (rows_from items m d) ≡ best_from items transition finish m d s
  unfolding rows_from
  cheapest_row zero d s = refl
  cheapest_row (suc m) d s = rows_by_head items (priced d s) m d ∙ (λ i. cheapest (λ x. after x (transition d s x) (suc d) m (cheapest_row m (suc d)) i) (items d))

-- ---- offers instead of the items that are kept

module _ {S X O : Type 0} (keep : ℕ → X → Bool) (offer : ℕ → X → O) (item : O → X) (back : (d : ℕ) (x : X) → item (offer d x) ≡ x) (items : ℕ → List X) (transition : Transitions S O) (finish : S → ℕ) where
  abbrev kept_transition : Transitions S X
  kept_transition d s x = if keep d x then transition d s (offer d x) else None

  abbrev offered : ℕ → List O
  offered d = map (offer d) (filter (keep d) (items d))

  abbrev by_items : (m d : ℕ) → S → Priced (List X)
  by_items m d s = best_from items kept_transition finish m d s

  abbrev by_offers : (m d : ℕ) → S → Priced (List O)
  by_offers m d s = best_from offered transition finish m d s

  one_offer : (m d k : ℕ) (x : X) (o : Option (S × ℕ)) → ((s : S) → by_items m k s ≡ raised 0 (map item) (by_offers m k s)) → raised 0 (map item) (best_after (offer d x) o (by_offers m k)) ≡ best_after x o (by_items m k)
  one_offer m d k x None best = refl
  one_offer m d k x (Some t) best =
      raised_twice 0 t.1 (map item) (λ os. offer d x ∷ os) (by_offers m k t.0)
      ∙ (λ i. raised (same i) (λ (os : List O). back d x i ∷ map item os) (by_offers m k t.0))
      ∙ sym (raised_twice t.1 0 (λ xs. x ∷ xs) (map item) (by_offers m k t.0))
      ∙ ap (raised t.1 (λ xs. x ∷ xs)) (sym (best t.0))
    where
      same : 0 + t.1 ≡ t.1 + 0
      same = omega arith

  pub best_of_kept : (m d : ℕ) (s : S) → by_items m d s ≡ raised 0 (map item) (by_offers m d s)
  best_of_kept zero d s = ap (λ cost. Some (cost, [])) (omega arith)
  best_of_kept (suc m) d s =
      let after_item : X → Priced (List X) = λ x. best_after x (kept_transition d s x) (by_items m (suc d)) in
      let after_offer : O → Priced (List O) = λ o. best_after o (transition d s o) (by_offers m (suc d)) in
      sym (cheapest_filter (keep d) (λ x. raised 0 (map item) (after_offer (offer d x))) after_item
      (λ x e. one_offer m d (suc d) x (transition d s (offer d x)) (best_of_kept m (suc d)) ∙ ap (λ b. best_after x (if b then transition d s (offer d x) else None) (by_items m (suc d))) (sym e))
      (λ x e. ap (λ b. best_after x (if b then transition d s (offer d x) else None) (by_items m (suc d))) e)
      (items d))
      ∙ cheapest_raised 0 (map item) (λ x. after_offer (offer d x)) (filter (keep d) (items d))
      ∙ ap (raised 0 (map item)) (sym (cheapest_map after_offer (offer d) (filter (keep d) (items d))))
