-- A list with one item more.
use Rattle.std.proofs.Common.{◌≡◌, ◌+◌, ◌<◌, ◌⊎◌, ℕ, inl, inr, arith, subst, sym, List, [], ◌∷◌, ◌++◌, length, slice_index_or}
use Rattle.std.proofs.lemmas.Bool.{cases_eq}
use Rattle.std.proofs.lemmas.List.{get_or_append_left, get_or_push}

-- what holds of each item, and of one item more, holds of each item of the longer list
pub each_more : {X : Type 0} (P : ℕ → X → Type 0) (xs : List X) (x d : X) (n : ℕ) → length xs ≡ n → ((i : ℕ) → i < n → P i (slice_index_or xs i d)) → P n x → (i : ℕ) → i < n + 1
    → P i (slice_index_or (xs ++ x ∷ []) i d)
each_more P xs x d n is each here i within = go (cases_eq i n)
  where
    go : (i ≡ n) ⊎ (i ≡ n → ⊥) → P i (slice_index_or (xs ++ x ∷ []) i d)
    go (inl e) = subst (λ j. P j (slice_index_or (xs ++ x ∷ []) j d)) (sym e) (subst (P n) (sym (get_or_push xs x d n is)) here)
    go (inr e) =
        let before : i < length xs = omega arith in
        subst (P i) (sym (get_or_append_left xs (x ∷ []) d i before)) (each i (omega arith))
