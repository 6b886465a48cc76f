-- Lists that are made from a range of numbers, item by item.
use Rattle.std.proofs.Common.{◌≡◌, ℕ, zero, suc, ◌+◌, List, [], ◌∷◌, ◌++◌, ap, ◌∙◌, arith, zero-add, add-zero, append-nil, refl}
use Rattle.std.proofs.lemmas.List.Concat.{flat_map-append}
use Rattle.std.specs.List.{flat_map, range_with_len}

pub range_with_len-add : (a m k : ℕ) → range_with_len a (m + k) ≡ range_with_len a m ++ range_with_len (a + m) k
range_with_len-add a zero k = rw (zero-add, add-zero) refl
range_with_len-add a (suc m) k =
    let e : suc m + k ≡ suc (m + k) = omega arith in
    let f : a + suc m ≡ (a + 1) + m = omega arith in
    rw (e, f) (ap (λ l. a ∷ l) (range_with_len-add (a + 1) m k))

pub range_with_len_more : (m : ℕ) → range_with_len 0 (m + 1) ≡ range_with_len 0 m ++ m ∷ []
range_with_len_more m = range_with_len-add 0 m 1 ∙ ap (λ a. range_with_len 0 m ++ a ∷ []) (zero-add m)

pub flat_map-range_more : {A : Type 0} (f : ℕ → List A) (m : ℕ) → flat_map f (range_with_len 0 (m + 1)) ≡ flat_map f (range_with_len 0 m) ++ f m
flat_map-range_more f m = ap (flat_map f) (range_with_len_more m) ∙ flat_map-append f _ _ ∙ ap (λ l. flat_map f (range_with_len 0 m) ++ l) (append-nil (f m))
