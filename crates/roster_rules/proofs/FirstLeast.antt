-- The first of the least members of a list: the function returns it, and the property determines it.
use Rattle.std.proofs.Common.{◌≡◌, refl, ap, subst, arith, ℕ, ◌<◌, ◌≤◌, Bool, true, false, List, [], ◌∷◌, ◌++◌, Option, Some, None, nat_lt, if◌then◌else◌}
use Rattle.std.specs.List.{All}
use Rattle.std.proofs.lemmas.Bool.{ltb-true, ltb-false, lt-ltb, le-ltb}
use Rattle.std.proofs.lemmas.List.Elements.{All-cons, All-nil, All-head, All-tail, All-append}
use Rattle.roster_rules.specs.AllowedRows.{IsFirstLeast, cheaper_of, first_least}

-- the first member is the answer
at_first : {A : Type 0} (cost : A → ℕ) (x : A) (xs : List A) → All (λ y. cost x ≤ cost y) xs → IsFirstLeast cost (x ∷ xs) x
at_first cost x xs h = record { before = []; after = xs; split = refl; dearer = All-nil (λ y. cost x < cost y); least = h }

-- the answer is after a dearer member
following : {A : Type 0} (cost : A → ℕ) (x y : A) (xs : List A) → cost y < cost x → IsFirstLeast cost xs y → IsFirstLeast cost (x ∷ xs) y
following cost x y xs h f = record {
  before = x ∷ f.before;
  after = f.after;
  split = ap (λ (ys : List _). x ∷ ys) f.split;
  dearer = All-cons (λ z. cost y < cost z) x f.before h f.dearer;
  least = f.least;
}

-- no member is cheaper than the answer
least_of_all : {A : Type 0} (cost : A → ℕ) (y : A) (xs : List A) → IsFirstLeast cost xs y → All (λ z. cost y ≤ cost z) xs
least_of_all cost y xs f =
    let P : _ → Type 0 = λ z. cost y ≤ cost z in
    let front : All P f.before = λ k d h. omega (arith, f.dearer k d h) in
    let back : All P (y ∷ f.after) = All-cons P y f.after (omega arith) f.least in
    rw f.split (All-append P f.before (y ∷ f.after) front back)

cheaper_of_two : {A : Type 0} (cost : A → ℕ) (x y : A) (xs : List A) → IsFirstLeast cost xs y → (b : Bool) → nat_lt (cost y) (cost x) ≡ b → IsFirstLeast cost (x ∷ xs) (if b then y else x)
cheaper_of_two cost x y xs f true e = following cost x y xs (ltb-true _ _ e) f
cheaper_of_two cost x y xs f false e =
    at_first cost x xs (λ k d h. omega (arith, ltb-false _ _ e, least_of_all cost y xs f k d h))

pub none_of_nothing : {A : Type 0} (cost : A → ℕ) (xs : List A) → first_least cost xs ≡ None → xs ≡ []
none_of_nothing cost [] e = refl
none_of_nothing cost (x ∷ xs) e = absurd cc

found_after : {A : Type 0} (cost : A → ℕ) (x : A) (xs : List A) (o : Option A) → first_least cost xs ≡ o → ((y : A) → first_least cost xs ≡ Some y → IsFirstLeast cost xs y) → IsFirstLeast cost (x ∷ xs) (cheaper_of cost x o)
found_after cost x xs None e f = rw (none_of_nothing cost xs e) (at_first cost x [] (All-nil (λ y. cost x ≤ cost y)))
found_after cost x xs (Some y) e f = cheaper_of_two cost x y xs (f y e) (nat_lt (cost y) (cost x)) refl

pub found : {A : Type 0} (cost : A → ℕ) (xs : List A) (x : A) → first_least cost xs ≡ Some x → IsFirstLeast cost xs x
found cost [] x e = absurd cc
found {A} cost (y ∷ xs) x e =
    let P : A → Type 0 = λ z. IsFirstLeast cost (y ∷ xs) z in
    let same : cheaper_of cost y (first_least cost xs) ≡ x = cc in
    subst P same (found_after cost y xs (first_least cost xs) refl (found cost xs))

-- ---- the converse

not_cheaper : {A : Type 0} (cost : A → ℕ) (x y : A) → cost x ≤ cost y → cheaper_of cost x (Some y) ≡ x
not_cheaper cost x y h = rw (le-ltb (cost y) (cost x) h)

cheaper : {A : Type 0} (cost : A → ℕ) (x y : A) → cost y < cost x → cheaper_of cost x (Some y) ≡ y
cheaper cost x y h = rw (lt-ltb (cost y) (cost x) h)

member : {A : Type 0} (cost : A → ℕ) (x y : A) (before after : List A) → All (λ z. cost x ≤ cost z) (before ++ y ∷ after) → cost x ≤ cost y
member cost x y [] after h = All-head (λ z. cost x ≤ cost z) y after h
member cost x y (b ∷ bs) after h = member cost x y bs after (All-tail (λ z. cost x ≤ cost z) b (bs ++ y ∷ after) h)

before_dearer : {A : Type 0} (cost : A → ℕ) (x : A) (xs : List A) (o : Option A) → first_least cost xs ≡ o → All (λ y. cost x ≤ cost y) xs → first_least cost (x ∷ xs) ≡ Some x
before_dearer cost x xs None e h = rw e
before_dearer cost x xs (Some y) e h =
    let f = found cost xs y e in
    let P : _ → Type 0 = λ z. cost x ≤ cost z in
    let parts : All P (f.before ++ y ∷ f.after) = rw (← f.split) h in
    let at : cost x ≤ cost y = member cost x y f.before f.after parts in
    rw (e, not_cheaper cost x y at)

among : {A : Type 0} (cost : A → ℕ) (x : A) (before after : List A) → All (λ y. cost x < cost y) before → All (λ y. cost x ≤ cost y) after → first_least cost (before ++ x ∷ after) ≡ Some x
among cost x [] after h k = before_dearer cost x after (first_least cost after) refl k
among cost x (b ∷ bs) after h k =
    let rest = among cost x bs after (All-tail (λ y. cost x < cost y) b bs h) k in
    let first = All-head (λ y. cost x < cost y) b bs h in
    rw (rest, cheaper cost b x first)

pub only : {A : Type 0} (cost : A → ℕ) (xs : List A) (x : A) → IsFirstLeast cost xs x → first_least cost xs ≡ Some x
only cost xs x f = rw f.split (among cost x f.before f.after f.dearer f.least)
