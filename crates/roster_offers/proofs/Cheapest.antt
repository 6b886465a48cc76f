-- Laws of the cheapest of some things.
use Rattle.std.proofs.Common.{◌≡◌, ◌∙◌, ◌+◌, ◌<◌, ◌≤◌, ◌⊎◌, ℕ, Bool, true, false, inl, inr, ap, arith, refl, sym, List, [], ◌∷◌, ◌++◌, filter, map, nat_lt, Option, Some, None, if◌then◌else◌}
use Rattle.std.specs.Prelude.{option_map}
use Rattle.std.specs.List.{flat_map}
use Rattle.std.proofs.lemmas.Bool.{cases_lt, lt-ltb, le-ltb}
use Rattle.roster_rules.specs.AllowedRows.{cheaper_of, first_least}
use Rattle.roster_offers.specs.Cheapest.{Priced, cheaper, cheapest, plus, raised, with_cost}

abbrev pub cost_or : {X : Type 0} → ℕ → Priced X → ℕ
cost_or k None = k
cost_or k (Some p) = p.0

abbrev pub thing_or : {X : Type 0} → X → Priced X → X
thing_or x None = x
thing_or x (Some p) = p.1

-- ---- of two, and of three

pub cheaper_none : {X : Type 0} (p : Priced X) → cheaper p None ≡ p
cheaper_none None = refl
cheaper_none (Some p) = refl

pub keeps_first : {X : Type 0} (p q : ℕ × X) → p.0 ≤ q.0 → cheaper (Some p) (Some q) ≡ Some p
keeps_first p q h = rw (le-ltb q.0 p.0 h)

pub takes_second : {X : Type 0} (p q : ℕ × X) → q.0 < p.0 → cheaper (Some p) (Some q) ≡ Some q
takes_second p q h = rw (lt-ltb q.0 p.0 h)

pub grouped : {X : Type 0} (p q o : Priced X) → cheaper (cheaper p q) o ≡ cheaper p (cheaper q o)
grouped None q o = refl
grouped (Some p) None o = refl
grouped (Some p) (Some q) None = cheaper_none (cheaper (Some p) (Some q))
grouped (Some p) (Some q) (Some o) = go (cases_lt q.0 p.0) (cases_lt o.0 q.0)
  where
    go : (q.0 < p.0) ⊎ (p.0 ≤ q.0) → (o.0 < q.0) ⊎ (q.0 ≤ o.0) → cheaper (cheaper (Some p) (Some q)) (Some o) ≡ cheaper (Some p) (cheaper (Some q) (Some o))
    go (inl h) (inl k) = rw (takes_second p q h, takes_second q o k, takes_second p o (omega arith))
    go (inl h) (inr k) = rw (takes_second p q h, keeps_first q o k, takes_second p q h)
    go (inr h) (inl k) = rw (keeps_first p q h, takes_second q o k)
    go (inr h) (inr k) = rw (keeps_first p q h, keeps_first q o k, keeps_first p q h, keeps_first p o (omega arith))

-- ---- of a list

pub cheapest_both : {Y X : Type 0} (f : Y → Priced X) (ys zs : List Y) → cheapest f (ys ++ zs) ≡ cheaper (cheapest f ys) (cheapest f zs)
cheapest_both f [] zs = refl
cheapest_both f (y ∷ ys) zs = ap (cheaper (f y)) (cheapest_both f ys zs) ∙ sym (grouped (f y) (cheapest f ys) (cheapest f zs))

-- with one thing more
pub cheapest_more : {Y X : Type 0} (f : Y → Priced X) (ys : List Y) (y : Y) → cheapest f (ys ++ y ∷ []) ≡ cheaper (cheapest f ys) (f y)
cheapest_more f ys y = cheapest_both f ys (y ∷ []) ∙ ap (cheaper (cheapest f ys)) (cheaper_none (f y))

pub cheapest_map : {Z Y X : Type 0} (f : Y → Priced X) (g : Z → Y) (zs : List Z) → cheapest f (map g zs) ≡ cheapest (λ z. f (g z)) zs
cheapest_map f g [] = refl
cheapest_map f g (z ∷ zs) = ap (cheaper (f (g z))) (cheapest_map f g zs)

pub cheapest_flat : {Z Y X : Type 0} (f : Y → Priced X) (g : Z → List Y) (zs : List Z) → cheapest f (flat_map g zs) ≡ cheapest (λ z. cheapest f (g z)) zs
cheapest_flat f g [] = refl
cheapest_flat f g (z ∷ zs) = cheapest_both f (g z) (flat_map g zs) ∙ ap (cheaper (cheapest f (g z))) (cheapest_flat f g zs)

pub cheapest_none : {Y X : Type 0} (ys : List Y) → cheapest {Y = Y} {X = X} (λ y. None) ys ≡ None
cheapest_none [] = refl
cheapest_none (y ∷ ys) = cheapest_none ys

-- of those that are kept, if the others aren't allowed
pub cheapest_filter : {Y X : Type 0} (keep : Y → Bool) (f g : Y → Priced X) → ((y : Y) → keep y ≡ true → f y ≡ g y) → ((y : Y) → keep y ≡ false → g y ≡ None) → (ys : List Y) → cheapest f (filter keep ys) ≡ cheapest g ys
cheapest_filter keep f g same none [] = refl
cheapest_filter {Y} keep f g same none (y ∷ ys) = go (keep y) refl (cheapest_filter keep f g same none ys)
  where
    go : (b : Bool) → keep y ≡ b → cheapest f (filter keep ys) ≡ cheapest g ys → cheapest f (if b then y ∷ filter keep ys else filter keep ys) ≡ cheaper (g y) (cheapest g ys)
    go true e rest = (λ i. cheaper (same y e i) (rest i))
    go false e rest = rest ∙ ap (λ p. cheaper p (cheapest g ys)) (sym (none y e))

-- the first least of those that are kept
pub cheapest-first_least : {X : Type 0} (cost : X → ℕ) (keep : X → Bool) (xs : List X) → cheapest (λ x. with_cost x (if keep x then Some (cost x) else None)) xs ≡ option_map (λ x. (cost x, x)) (first_least cost (filter keep xs))
cheapest-first_least cost keep [] = refl
cheapest-first_least {X} cost keep (x ∷ xs) = ap (cheaper (with_cost x (if keep x then Some (cost x) else None))) (cheapest-first_least cost keep xs) ∙ go (keep x) (first_least cost (filter keep xs)) refl
  where
    two : (o : Option X) → cheaper (Some (cost x, x)) (option_map (λ y. (cost y, y)) o) ≡ Some (cost (cheaper_of cost x o), cheaper_of cost x o)
    two None = refl
    two (Some y) = by (nat_lt (cost y) (cost x))
      where
        pair : X → Priced X
        pair z = Some (cost z, z)

        by : (b : Bool) → (if b then pair y else pair x) ≡ Some (cost (if b then y else x), (if b then y else x))
        by true = refl
        by false = refl

    go : (b : Bool) (o : Option X) → first_least cost (filter keep xs) ≡ o → cheaper (with_cost x (if b then Some (cost x) else None)) (option_map (λ y. (cost y, y)) o) ≡ option_map (λ y. (cost y, y)) (first_least cost (if b then x ∷ filter keep xs else filter keep xs))
    go true o e = two o ∙ ap (λ p. Some (cost (cheaper_of cost x p), cheaper_of cost x p)) (sym e)
    go false o e = ap (option_map (λ y. (cost y, y))) (sym e)

-- ---- raised costs

raised_both : {Z X : Type 0} (k : ℕ) (g : Z → X) (p q : Priced Z) → cheaper (raised k g p) (raised k g q) ≡ raised k g (cheaper p q)
raised_both k g None q = refl
raised_both k g (Some p) None = refl
raised_both k g (Some p) (Some q) = go (cases_lt q.0 p.0)
  where
    go : (q.0 < p.0) ⊎ (p.0 ≤ q.0) → cheaper (raised k g (Some p)) (raised k g (Some q)) ≡ raised k g (cheaper (Some p) (Some q))
    go (inl h) = rw (lt-ltb q.0 p.0 h, lt-ltb (k + q.0) (k + p.0) (omega arith))
    go (inr h) = rw (le-ltb q.0 p.0 h, le-ltb (k + q.0) (k + p.0) (omega arith))

pub cheapest_raised : {Y Z X : Type 0} (k : ℕ) (g : Z → X) (f : Y → Priced Z) (ys : List Y) → cheapest (λ y. raised k g (f y)) ys ≡ raised k g (cheapest f ys)
cheapest_raised k g f [] = refl
cheapest_raised k g f (y ∷ ys) = ap (cheaper (raised k g (f y))) (cheapest_raised k g f ys) ∙ raised_both k g (f y) (cheapest f ys)

pub raised_twice : {Z Y X : Type 0} (j k : ℕ) (g : Y → X) (h : Z → Y) (p : Priced Z) → raised j g (raised k h p) ≡ raised (j + k) (λ z. g (h z)) p
raised_twice j k g h None = refl
raised_twice j k g h (Some p) = ap (λ cost. Some (cost, g (h p.1))) (omega arith)

pub cost-raised : {Z X : Type 0} (k : ℕ) (g : Z → X) (z : Z) (o : Option ℕ) → with_cost (g z) (plus k o) ≡ raised k g (with_cost z o)
cost-raised k g z None = refl
cost-raised k g z (Some m) = refl

pub plus_twice : (j k : ℕ) (o : Option ℕ) → plus (j + k) o ≡ plus j (plus k o)
plus_twice j k None = refl
plus_twice j k (Some m) = ap Some (omega arith)
