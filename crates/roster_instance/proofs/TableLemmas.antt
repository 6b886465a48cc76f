-- Tables that keep the first item of each index.
use Rattle.std.proofs.Common.{◌≡◌, ◌≢◌, ◌∙◌, ◌+◌, ◌<◌, ◌||◌, ◌&&◌, ◌==◌, ◌*◌, ◌⊎◌, ℕ, Bool, cond, true, false, zero, suc, refl, sym, ap, ap₂, arith, List, [], ◌∷◌, ◌++◌, get_or, length, map, Option, Some, None, inl, inr, ⊎_elim, is_some}
use Rattle.std.proofs.Math.ListN.{replicate, set}
use Rattle.std.specs.Prelude.{IfSome, find, option_and_then, option_map}
use Rattle.std.specs.List.{list_any, range_with_len}
use Rattle.std.specs.Option.{option_or}
use Rattle.std.proofs.lemmas.List.{ext_get_or, get_or-set_other, get_or-set_same, length-set}
use Rattle.std.proofs.lemmas.List.FromFn.{get_or-map-range_with_len, length-map-range_with_len}
use Rattle.std.proofs.lemmas.List.Folds.{find-append}
use Rattle.std.proofs.lemmas.Bool.{and_right, cases_eq, eq-eqb, ne_eqb}
use Rattle.roster_instance.specs.Tables.{is_at, item_at, table_of}

-- ---- indices

-- two numbers are equal, or they aren't
is_equal : (p q : ℕ) → (((p == q) ≡ true) × (p ≡ q)) ⊎ (((p == q) ≡ false) × (p ≢ q))
is_equal p q = ⊎_elim (λ e. inl (eq-eqb p q e, e)) (λ other. inr (ne_eqb p q other, other)) (cases_eq p q)

-- an index equals itself
pub is_at-same : (p : ℕ) → is_at p (Some p) ≡ true
is_at-same p = ⊎_elim (λ h. h.0) (λ h. absurd (h.1 refl)) (is_equal p p)

pub is_at-other : (p q : ℕ) → p ≢ q → is_at p (Some q) ≡ false
is_at-other p q other = ⊎_elim (λ h. absurd (other (sym h.1))) (λ h. h.0) (is_equal q p)

-- the index of a nurse and weekday
pub at_day : (a b w : ℕ) (o : Option ℕ) → b < 7 → w < 7 → is_at (7 * a + b) (option_map (λ n. 7 * n + w) o) ≡ (is_at a o && (b == w))
at_day a b w None b_in w_in = refl
at_day a b w (Some n) b_in w_in = go (is_equal n a) (is_equal b w)
  where
    go : (((n == a) ≡ true) × (n ≡ a)) ⊎ (((n == a) ≡ false) × (n ≢ a)) → (((b == w) ≡ true) × (b ≡ w)) ⊎ (((b == w) ≡ false) × (b ≢ w)) → (7 * n + w == 7 * a + b) ≡ ((n == a) && (b == w))
    go (inl x) (inl y) = eq-eqb (7 * n + w) (7 * a + b) (omega (arith, x.1, y.1)) ∙ sym (rw (x.0, y.0) refl)
    go (inl x) (inr y) = ne_eqb (7 * n + w) (7 * a + b) (λ e. y.1 (omega (arith, x.1, e))) ∙ sym (rw (x.0, y.0) refl)
    go (inr x) other = ne_eqb (7 * n + w) (7 * a + b) (λ e. x.1 (omega (arith, e))) ∙ sym (rw x.0 refl)

-- the index of a shift and skill
pub at_skill : (a b : ℕ) (o u : Option ℕ) → b < 8 → IfSome u (λ k. k < 8) → is_at (8 * a + b) (option_and_then (λ s. option_map (λ k. 8 * s + k) u) o) ≡ (is_at a o && is_at b u)
at_skill a b None u b_in u_in = refl
at_skill a b (Some s) None b_in u_in = sym (and_right (s == a) false refl)
at_skill a b (Some s) (Some k) b_in k_in = go (is_equal s a) (is_equal k b)
  where
    go : (((s == a) ≡ true) × (s ≡ a)) ⊎ (((s == a) ≡ false) × (s ≢ a)) → (((k == b) ≡ true) × (k ≡ b)) ⊎ (((k == b) ≡ false) × (k ≢ b)) → (8 * s + k == 8 * a + b) ≡ ((s == a) && (k == b))
    go (inl x) (inl y) = eq-eqb (8 * s + k) (8 * a + b) (omega (arith, x.1, y.1)) ∙ sym (rw (x.0, y.0) refl)
    go (inl x) (inr y) = ne_eqb (8 * s + k) (8 * a + b) (λ e. y.1 (omega (arith, x.1, e))) ∙ sym (rw (x.0, y.0) refl)
    go (inr x) other = ne_eqb (8 * s + k) (8 * a + b) (λ e. x.1 (omega (arith, e))) ∙ sym (rw x.0 refl)

find-some : {X : Type 0} (test : X → Bool) (xs : List X) → is_some (find test xs) ≡ list_any test xs
find-some test [] = refl
find-some test (x ∷ xs) = go (test x) (find-some test xs)
  where
    go : (b : Bool) → is_some (find test xs) ≡ list_any test xs → is_some (cond b (Some x) (find test xs)) ≡ (b || list_any test xs)
    go true later = refl
    go false later = later

map-some : {X Y : Type 0} (f : X → Y) (o : Option X) → is_some (option_map f o) ≡ is_some o
map-some f None = refl
map-some f (Some x) = refl

map-none : {X Y : Type 0} (f : X → Y) (o : Option X) → option_map f o ≡ None → o ≡ None
map-none f None e = refl
map-none f (Some x) e = absurd (cc)

or_none : {X : Type 0} (o : Option X) → option_or o None ≡ o
or_none None = refl
or_none (Some x) = refl

map-alike : {Y : Type 0} (y : Y) (a n : ℕ) → map (λ _. y) (range_with_len a n) ≡ replicate n y
map-alike y a zero = refl
map-alike y a (suc n) = ap (λ ys. y ∷ ys) (map-alike y (a + 1) n)

-- ---- tables

module _ {A V : Type 0} (index : A → Option ℕ) (says : A → V) (n : ℕ) where
  pub table-empty : table_of index says n [] ≡ replicate n None
  unfolding table_of
  table-empty = map-alike None 0 n

  pub table-length : (xs : List A) → length (table_of index says n xs) ≡ n
  unfolding table_of
  table-length xs = length-map-range_with_len (λ p. option_map says (item_at index p xs)) 0 n

  pub table-at : (p : ℕ) (xs : List A) → p < n → get_or (table_of index says n xs) p None ≡ option_map says (item_at index p xs)
  unfolding table_of
  table-at p xs within = get_or-map-range_with_len (λ q. option_map says (item_at index q xs)) 0 n p p None within (omega arith)

  -- a cell is filled if an item has this index
  pub taken-any : (p : ℕ) (xs : List A) → p < n → is_some (get_or (table_of index says n xs) p None) ≡ list_any (λ e. is_at p (index e)) xs
  taken-any p xs within = ap is_some (table-at p xs within) ∙ map-some says (item_at index p xs) ∙ find-some (λ e. is_at p (index e)) xs

  -- one more item
  item-push : (q : ℕ) (xs : List A) (x : A) → item_at index q (xs ++ x ∷ []) ≡ option_or (item_at index q xs) (cond (is_at q (index x)) (Some x) None)
  item-push q xs x = find-append (λ e. is_at q (index e)) xs (x ∷ [])

  item-push_other : (q : ℕ) (xs : List A) (x : A) → is_at q (index x) ≡ false → item_at index q (xs ++ x ∷ []) ≡ item_at index q xs
  item-push_other q xs x other = item-push q xs x ∙ ap (λ b. option_or (item_at index q xs) (cond b (Some x) None)) other ∙ or_none (item_at index q xs)

  item-push_same : (q : ℕ) (xs : List A) (x : A) → is_at q (index x) ≡ true → item_at index q xs ≡ None → item_at index q (xs ++ x ∷ []) ≡ Some x
  item-push_same q xs x same free = item-push q xs x ∙ ap₂ (λ b o. option_or o (cond b (Some x) None)) same free

  -- one more item, whose cell is still empty, or past the end
  pub table-put : (p : ℕ) (xs : List A) (x : A) → index x ≡ Some p → get_or (table_of index says n xs) p None ≡ None
      → table_of index says n (xs ++ x ∷ []) ≡ set (table_of index says n xs) p (Some (says x))
  table-put p xs x at empty = ext_get_or None (table_of index says n (xs ++ x ∷ [])) (set (table_of index says n xs) p (Some (says x)))
      (table-length (xs ++ x ∷ []) ∙ sym (length-set (table_of index says n xs) p (Some (says x)) ∙ table-length xs))
      (λ q inside. cell q (omega (arith, inside, table-length (xs ++ x ∷ []))) (cases_eq q p))
    where
      here : p < n → item_at index p (xs ++ x ∷ []) ≡ Some x
      here within = item-push_same p xs x (ap (is_at p) at ∙ is_at-same p) (map-none says (item_at index p xs) (sym (table-at p xs within) ∙ empty))

      cell : (q : ℕ) → q < n → (q ≡ p) ⊎ (q ≡ p → ⊥) → get_or (table_of index says n (xs ++ x ∷ [])) q None ≡ get_or (set (table_of index says n xs) p (Some (says x))) q None
      cell q inside (inl same) =
          let within : p < n = omega arith in
          let covered : p < length (table_of index says n xs) = omega (arith, table-length xs) in
          ap (λ k. get_or (table_of index says n (xs ++ x ∷ [])) k None) same
          ∙ table-at p (xs ++ x ∷ []) within
          ∙ ap (option_map says) (here within)
          ∙ sym (ap (λ k. get_or (set (table_of index says n xs) p (Some (says x))) k None) same ∙ get_or-set_same (table_of index says n xs) p (Some (says x)) None covered)
      cell q inside (inr other) =
          table-at q (xs ++ x ∷ []) inside
          ∙ ap (option_map says) (item-push_other q xs x (ap (is_at q) at ∙ is_at-other q p other))
          ∙ sym (get_or-set_other (table_of index says n xs) p q (Some (says x)) None other ∙ table-at q xs inside)

  pub table-push : (p : ℕ) (xs : List A) (x : A) → index x ≡ Some p → p < n → get_or (table_of index says n xs) p None ≡ None
      → table_of index says n (xs ++ x ∷ []) ≡ set (table_of index says n xs) p (Some (says x))
  table-push p xs x at _ empty = table-put p xs x at empty
