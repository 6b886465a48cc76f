-- Takers can be put in order.
use Rattle.std.proofs.Common.{◌≡◌, ◌∙◌, ◌+◌, ◌<◌, ℕ, zero, suc, Bool, true, false, ap, arith, refl, List, [], ◌∷◌, length, get_or, if◌then◌else◌}
use Rattle.std.specs.Cmp.{IsStrictWeakOrder, IsTotalOrder}
use Rattle.std.specs.List.Sorted.{IsPermutation, IsSortedBy}
use Rattle.std.proofs.lemmas.Cmp.{nat_cmp_total, on_total, then_total}
use Rattle.std.proofs.lemmas.List.Sorted.{IsPermutation-cons, IsPermutation-middle, IsPermutation-refl, IsPermutation-sym, IsPermutation-trans, ranks_by}
use Rattle.roster_who.specs.declared.taker.Taker.{Taker}
use Rattle.roster_who.specs.Who.{AreInOrder, comes_before, order_of}

order_total : IsTotalOrder order_of
order_total = then_total (then_total (on_total (λ (t : Taker). t.missed) nat_cmp_total) (on_total (λ (t : Taker). t.penalty) nat_cmp_total)) (on_total (λ (t : Taker). t.nurse) nat_cmp_total)

order_weak : IsStrictWeakOrder comes_before
order_weak = ranks_by order_total (λ (t : Taker). t)

-- the list is sorted
abbrev IsUp : List Taker → Type 0
IsUp [] = Unit {0}
IsUp (x ∷ []) = Unit {0}
IsUp (x ∷ y ∷ ys) = (comes_before y x ≡ false) × IsUp (y ∷ ys)

next_not_before : (xs : List Taker) → IsUp xs → (k : ℕ) (d : Taker) → suc k < length xs → comes_before (get_or xs (suc k) d) (get_or xs k d) ≡ false
next_not_before [] up k d h = absurd (omega (arith, h))
next_not_before (x ∷ []) up k d h = absurd (omega (arith, h))
next_not_before (x ∷ y ∷ ys) up zero d h = up.0
next_not_before (x ∷ y ∷ ys) up (suc k) d h = next_not_before (y ∷ ys) up.1 k d (omega (arith, h))

sorted_up : (xs : List Taker) → IsUp xs → IsSortedBy comes_before xs
sorted_up xs up k d from h =
    let one : k + 1 ≡ suc k = omega arith in
    ap (λ j. comes_before (get_or xs j d) (get_or xs k d)) one ∙ next_not_before xs up k d (omega (arith, h))

put_in : Taker → List Taker → List Taker
put_in x [] = x ∷ []
put_in x (y ∷ ys) = if comes_before x y then x ∷ y ∷ ys else y ∷ put_in x ys

put_first : (x y : Taker) (ys : List Taker) (b : Bool) → comes_before x y ≡ b → IsUp (y ∷ ys) → (comes_before x y ≡ false → IsUp (y ∷ put_in x ys)) → IsUp (if b then x ∷ y ∷ ys else y ∷ put_in x ys)
unfolding put_in
put_first x y ys true e up later = (order_weak.one_way x y e, up)
put_first x y ys false e up later = later e

put_next : (x y z : Taker) (zs : List Taker) (b : Bool) → comes_before x z ≡ b → comes_before x y ≡ false → IsUp (y ∷ z ∷ zs) → (comes_before x z ≡ false → IsUp (z ∷ put_in x zs)) → IsUp (y ∷ (if b then x ∷ z ∷ zs else z ∷ put_in x zs))
put_next x y z zs true is e up later = (e, (order_weak.one_way x z is, up.1))
put_next x y z zs false is e up later = (up.0, later is)

put_after : (x y : Taker) (ys : List Taker) → comes_before x y ≡ false → IsUp (y ∷ ys) → IsUp (y ∷ put_in x ys)
unfolding put_in
put_after x y [] e up = (e, tt)
put_after x y (z ∷ zs) e up = put_next x y z zs (comes_before x z) refl e up (λ is. put_after x z zs is up.1)

put_up : (x : Taker) (ys : List Taker) → IsUp ys → IsUp (put_in x ys)
unfolding put_in
put_up x [] up = tt
put_up x (y ∷ ys) up = put_first x y ys (comes_before x y) refl up (λ e. put_after x y ys e up)

same_next : (x y : Taker) (ys put : List Taker) (b : Bool) → IsPermutation (x ∷ ys) put → IsPermutation (x ∷ y ∷ ys) (if b then x ∷ y ∷ ys else y ∷ put)
same_next x y ys put true rest = IsPermutation-refl (x ∷ y ∷ ys)
same_next x y ys put false rest =
    IsPermutation-trans (x ∷ y ∷ ys) (y ∷ x ∷ ys) (y ∷ put) (IsPermutation-sym (y ∷ x ∷ ys) (x ∷ y ∷ ys) (IsPermutation-middle (y ∷ []) x ys)) (IsPermutation-cons y (x ∷ ys) put rest)

put_same : (x : Taker) (ys : List Taker) → IsPermutation (x ∷ ys) (put_in x ys)
unfolding put_in
put_same x [] = IsPermutation-refl (x ∷ [])
put_same x (y ∷ ys) = same_next x y ys (put_in x ys) (comes_before x y) (put_same x ys)

-- such an order exists
made_order : (xs : List Taker) → (ys : List Taker) × (IsPermutation xs ys × IsUp ys)
made_order [] = ([], (IsPermutation-refl [], tt))
made_order (x ∷ xs) =
    let rest = made_order xs in
    (put_in x rest.0, (IsPermutation-trans (x ∷ xs) (x ∷ rest.0) (put_in x rest.0) (IsPermutation-cons x xs rest.0 rest.1.0) (put_same x rest.0), put_up x rest.0 rest.1.1))

pub some_order : (all : List Taker) → (listed : List Taker) × AreInOrder all listed
some_order all = let made = made_order all in (made.0, record { same = made.1.0; sorted = sorted_up made.0 made.1.1 })
