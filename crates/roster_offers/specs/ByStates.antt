-- Rows of items, one for each day, that lead from state to state: each transition has a cost, and so has the
-- last state.
use Rattle.std.specs.Prelude.{ℕ, zero, suc, List, [], ◌∷◌, flat_map, map, Option, Some, None}
use Rattle.roster_offers.specs.Cheapest.{Priced, cheapest, plus, raised, with_cost}

-- the state after an item of a day, and what it costs; none if the item is forbidden
abbrev pub Transitions : Type 0 → Type 0 → Type 0
Transitions S X = ℕ → S → X → Option (S × ℕ)

-- ---- one row

-- the cost of a transition and of what comes after it, none if the transition is forbidden
abbrev pub cost_after : {S : Type 0} → Option (S × ℕ) → (S → Option ℕ) → Option ℕ
cost_after None rest = None
cost_after (Some t) rest = plus t.1 (rest t.0)

-- what a row costs from day d and state s on
abbrev pub cost_from : {S X : Type 0} → Transitions S X → (S → ℕ) → ℕ → S → List X → Option ℕ
cost_from transition finish d s [] = Some (finish s)
cost_from transition finish d s (x ∷ xs) =
    cost_after (transition d s x) (λ t. cost_from transition finish (suc d) t xs)

-- ---- all rows

-- the rows of m days from day d on, with its own items on each day, ordered by the first day on which they
-- differ
unfoldable pub rows_from : {X : Type 0} → (ℕ → List X) → (m d : ℕ) → List (List X)
rows_from items zero d = [] ∷ []
rows_from items (suc m) d =
    flat_map (λ first. map (λ rest. first ∷ rest) (rows_from items m (suc d))) (items d)

-- the cheapest of these rows from a state on, with its cost
abbrev pub cheapest_of_rows : {S X : Type 0} → (ℕ → List X) → Transitions S X → (S → ℕ) → (m d : ℕ) → S
    → Priced (List X)
cheapest_of_rows items transition finish m d s =
    cheapest (λ row. with_cost row (cost_from transition finish d s row)) (rows_from items m d)

-- ---- the best row, by states

-- an item and the best row after it, none if the item is forbidden
abbrev pub best_after : {S X : Type 0} → X → Option (S × ℕ) → (S → Priced (List X)) → Priced (List X)
best_after x None rest = None
best_after x (Some t) rest = raised t.1 (λ xs. x ∷ xs) (rest t.0)

-- the best of the rows of m days from day d and state s on, with its cost
abbrev pub best_from : {S X : Type 0} → (ℕ → List X) → Transitions S X → (S → ℕ) → (m d : ℕ) → S
    → Priced (List X)
best_from items transition finish zero d s = Some (finish s, [])
best_from items transition finish (suc m) d s =
    cheapest (λ x. best_after x (transition d s x) (best_from items transition finish m (suc d))) (items d)
