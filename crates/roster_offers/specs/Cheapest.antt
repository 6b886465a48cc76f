-- The cheapest of some things that have costs, and the first of equally cheap ones.
use Rattle.std.specs.Prelude.{ℕ, ◌+◌, nat_lt, List, [], ◌∷◌, if◌then◌else◌, Option, Some, None, option_map}

-- a thing with its cost, none if it isn't allowed
abbrev pub Priced : Type 0 → Type 0
Priced X = Option (ℕ × X)

abbrev pub with_cost : {X : Type 0} → X → Option ℕ → Priced X
with_cost x cost = option_map (λ k. (k, x)) cost

-- the cheaper of two, and of equally cheap ones the first
abbrev pub cheaper : {X : Type 0} → Priced X → Priced X → Priced X
cheaper None q = q
cheaper (Some p) None = Some p
cheaper (Some p) (Some q) = if nat_lt q.0 p.0 then Some q else Some p

-- the first of the cheapest, if any is allowed
abbrev pub cheapest : {Y X : Type 0} → (Y → Priced X) → List Y → Priced X
cheapest f [] = None
cheapest f (y ∷ ys) = cheaper (f y) (cheapest f ys)

-- a cost raised by k
abbrev pub plus : ℕ → Option ℕ → Option ℕ
plus k None = None
plus k (Some m) = Some (k + m)

-- a thing with its cost raised by k, and changed by g
abbrev pub raised : {Z X : Type 0} → ℕ → (Z → X) → Priced Z → Priced X
raised k g None = None
raised k g (Some p) = Some (k + p.0, g p.1)
