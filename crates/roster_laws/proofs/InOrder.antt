-- The list of all rows is in the order of rows.
use Rattle.std.proofs.Common.{◌≡◌, ◌∙◌, ℕ, zero, suc, ap, arith, sym, refl, List, [], ◌∷◌, ◌++◌, append_assoc, map}
use Rattle.std.specs.List.{All, AllPairs, flat_map}
use Rattle.std.proofs.lemmas.List.Elements.{All-append, All-cons, All-head, All-map, All-nil, All-tail}
use Rattle.std.proofs.lemmas.List.Kept.{AllPairs-cons}
use Rattle.roster_instance.specs.Choices.{all_rows}
use Rattle.roster_laws.specs.RowOrder.{IsEarlier, StandsBefore}

-- ---- pairs of a list

module _ {X : Type 0} (R : X → X → Type 0) where
  pairs-nil : AllPairs R []
  pairs-nil = λ i j d before within. absurd (omega (arith, within))

  pairs_head : (x : X) (xs : List X) → AllPairs R (x ∷ xs) → All (R x) xs
  pairs_head x xs pairs = λ k d within. pairs 0 (suc k) d (omega arith) (omega (arith, within))

  pairs_tail : (x : X) (xs : List X) → AllPairs R (x ∷ xs) → AllPairs R xs
  pairs_tail x xs pairs = λ i j d before within. pairs (suc i) (suc j) d (omega (arith, before)) (omega (arith, within))

  pairs-append : (xs ys : List X) → AllPairs R xs → AllPairs R ys → All (λ x. All (R x) ys) xs → AllPairs R (xs ++ ys)
  pairs-append [] ys left right across = right
  pairs-append (x ∷ xs) ys left right across =
      AllPairs-cons R x (xs ++ ys) (All-append (R x) xs ys (pairs_head x xs left) (All-head (λ z. All (R z) ys) x xs across))
      (pairs-append xs ys (pairs_tail x xs left) right (All-tail (λ z. All (R z) ys) x xs across))

each : {X : Type 0} (P : X → Type 0) → ((x : X) → P x) → (xs : List X) → All P xs
each P p [] = All-nil P
each P p (x ∷ xs) = All-cons P x xs (p x) (each P p xs)

-- ---- rows

module _ {A : Type 0} (items : List A) where
  abbrev Earlier : List A → List A → Type 0
  Earlier a b = IsEarlier items a b

  -- the same, with an item in front of both
  longer : (x : A) (a b : List A) → Earlier a b → Earlier (x ∷ a) (x ∷ b)
  longer x a b e = record {
    same = x ∷ e.same;
    item_of_a = e.item_of_a;
    item_of_b = e.item_of_b;
    rest_of_a = e.rest_of_a;
    rest_of_b = e.rest_of_b;
    a_is = ap (λ l. x ∷ l) e.a_is;
    b_is = ap (λ l. x ∷ l) e.b_is;
    before = e.before;
  }

  pairs-longer : (x : A) (rows : List (List A)) → AllPairs Earlier rows → AllPairs Earlier (map (λ rest. x ∷ rest) rows)
  pairs-longer x [] pairs = pairs-nil Earlier
  pairs-longer x (row ∷ rows) pairs =
      AllPairs-cons Earlier (x ∷ row) (map (λ rest. x ∷ rest) rows) (All-map (Earlier (x ∷ row)) (λ rest. x ∷ rest) rows (λ k d within. longer x row _ (pairs_head Earlier row rows pairs k d within)))
      (pairs-longer x rows (pairs_tail Earlier row rows pairs))

  -- an earlier item in front
  at_front : (x y : A) (a b : List A) → StandsBefore items x y → Earlier (x ∷ a) (y ∷ b)
  at_front x y a b before = record { same = []; item_of_a = x; item_of_b = y; rest_of_a = a; rest_of_b = b; a_is = refl; b_is = refl; before = before }

  -- rows that begin with x, and those that begin with later items
  across : (rows : List (List A)) (x : A) (front between later : List A) → items ≡ front ++ x ∷ (between ++ later) → (a : List A) → All (Earlier (x ∷ a)) (flat_map (λ y. map (λ rest. y ∷ rest) rows) later)
  across rows x front between [] split a = All-nil (Earlier (x ∷ a))
  across rows x front between (y ∷ later) split a =
      let before : StandsBefore items x y = record { front = front; between = between; back = later; split = split } in
      let next : items ≡ front ++ x ∷ ((between ++ y ∷ []) ++ later) = split ∙ ap (λ l. front ++ x ∷ l) (sym (append_assoc between (y ∷ []) later)) in
      All-append (Earlier (x ∷ a)) (map (λ rest. y ∷ rest) rows) (flat_map (λ z. map (λ rest. z ∷ rest) rows) later)
      (All-map (Earlier (x ∷ a)) (λ rest. y ∷ rest) rows (each (λ rest. Earlier (x ∷ a) (y ∷ rest)) (λ b. at_front x y a b before) rows)) (across rows x front (between ++ y ∷ []) later next a)

  from_item : (rows : List (List A)) → AllPairs Earlier rows → (front later : List A) → items ≡ front ++ later → AllPairs Earlier (flat_map (λ x. map (λ rest. x ∷ rest) rows) later)
  from_item rows pairs front [] split = pairs-nil Earlier
  from_item rows pairs front (x ∷ later) split =
      let next : items ≡ (front ++ x ∷ []) ++ later = split ∙ sym (append_assoc front (x ∷ []) later) in
      pairs-append Earlier (map (λ rest. x ∷ rest) rows) (flat_map (λ y. map (λ rest. y ∷ rest) rows) later) (pairs-longer x rows pairs) (from_item rows pairs (front ++ x ∷ []) later next)
      (All-map (λ a. All (Earlier a) (flat_map (λ y. map (λ rest. y ∷ rest) rows) later)) (λ rest. x ∷ rest) rows
      (each (λ a. All (Earlier (x ∷ a)) (flat_map (λ y. map (λ rest. y ∷ rest) rows) later)) (λ a. across rows x front [] later split a) rows))

  pub rows_in_order : (m : ℕ) → AllPairs Earlier (all_rows items m)
  unfolding all_rows
  rows_in_order zero = AllPairs-cons Earlier [] [] (All-nil (Earlier [])) (pairs-nil Earlier)
  rows_in_order (suc m) = from_item (all_rows items m) (rows_in_order m) [] items refl
