-- The least that a slot costs, and the least of a list.
use Rattle.std.proofs.Common.{◌≡◌, ◌+◌, ◌-◌, ◌*◌, ◌<◌, ◌≤◌, ◌⊎◌, ℕ, Bool, true, false, inl, inr, ap, arith, refl, List, [], ◌∷◌, nat_lt, mul-add, Contains, if◌then◌else◌}
use Rattle.std.specs.Prelude.{min, max}
use Rattle.std.specs.List.{All}
use Rattle.std.specs.Option.{option_map_or}
use Rattle.std.proofs.Math.Nat.{mul-le-mul_left, mul-le-mul_right}
use Rattle.std.proofs.lemmas.Bool.{cases_lt, ltb-true, ltb-false}
use Rattle.std.proofs.lemmas.List.Elements.{All-cons, All-contains, All-nil, All-weaker}
use Rattle.roster_rules.specs.AllowedRows.{cheaper_of, first_least}
use Rattle.roster_rules.specs.Weights.{staffing_weight}

-- ---- a slot: between the minimum m and the optimum o each further nurse z adds the pay and takes off one
-- weight, and above the optimum she adds the pay

least_by_weight : (u g m o z : ℕ) → m ≤ z → min (u * (o - m) + g * m) (u * (o - max m o) + g * max m o) ≤ u * (o - z) + g * z
least_by_weight u g m o z h = go (cases_lt z o) (cases_lt u g)
  where
    none : u * (o - max m o) ≡ u * 0
    none = ap (λ k. u * k) (omega arith)

    go : (z < o) ⊎ (o ≤ z) → (u < g) ⊎ (g ≤ u) → min (u * (o - m) + g * m) (u * (o - max m o) + g * max m o) ≤ u * (o - z) + g * z
    go (inr above) dear =
        let few : max m o ≤ z = omega arith in
        omega (arith, none, mul-le-mul_left g few)
    go (inl below) (inl dear) =
        let grown : z ≡ m + (z - m) = omega arith in
        let apart : o - m ≡ (o - z) + (z - m) = omega arith in
        let dearer : u ≤ g = omega arith in
        omega (arith, ap (λ k. g * k) grown, mul-add g m (z - m), ap (λ k. u * k) apart, mul-add u (o - z) (z - m), mul-le-mul_right (z - m) dearer)
    go (inl below) (inr cheap) =
        let grown : max m o ≡ z + (o - z) = omega arith in
        omega (arith, none, ap (λ k. g * k) grown, mul-add g z (o - z), mul-le-mul_right (o - z) cheap)

pub slot_least : (scale g m o z : ℕ) → m ≤ z → min (scale * (staffing_weight * (o - m)) + g * m) (scale * (staffing_weight * (o - max m o)) + g * max m o) ≤ scale * (staffing_weight * (o - z)) + g * z
slot_least scale g m o z h = omega (arith, least_by_weight (scale * staffing_weight) g m o z h)

-- ---- a list: no member costs less than the first of the cheapest

abbrev pub least_cost : {A : Type 0} → (A → ℕ) → List A → ℕ
least_cost cost xs = option_map_or cost (first_least cost xs) 0

least_of_all : {A : Type 0} (cost : A → ℕ) (xs : List A) → All (λ x. least_cost cost xs ≤ cost x) xs
least_of_all cost [] = All-nil (λ x. 0 ≤ cost x)
least_of_all cost (x ∷ []) = All-cons (λ y. cost x ≤ cost y) x [] (omega arith) (All-nil (λ y. cost x ≤ cost y))
least_of_all {A} cost (x ∷ y ∷ ys) = go (nat_lt (cost z) (cost x)) refl (least_of_all cost (y ∷ ys))
  where
    z : A
    z = cheaper_of cost y (first_least cost ys)

    go : (b : Bool) → nat_lt (cost z) (cost x) ≡ b → All (λ q. cost z ≤ cost q) (y ∷ ys) → All (λ q. cost (if b then z else x) ≤ cost q) (x ∷ y ∷ ys)
    go true e rest = All-cons (λ q. cost z ≤ cost q) x (y ∷ ys) (omega (arith, ltb-true (cost z) (cost x) e)) rest
    go false e rest =
        All-cons (λ q. cost x ≤ cost q) x (y ∷ ys) (omega arith) (All-weaker (λ q. cost z ≤ cost q) (λ q. cost x ≤ cost q) (λ q h. omega (arith, ltb-false (cost z) (cost x) e, h)) (y ∷ ys) rest)

pub least_below : {A : Type 0} (cost : A → ℕ) (xs : List A) (x : A) → Contains xs x → least_cost cost xs ≤ cost x
least_below cost xs x member = All-contains (λ y. least_cost cost xs ≤ cost y) xs x (least_of_all cost xs) member
