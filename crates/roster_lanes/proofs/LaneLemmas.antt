-- Vectors of `LANES` labels: what is lowered, which bits are set, and which pointers are chosen.
use Rattle.std.proofs.Common.{◌≡◌, ℕ, ◌+◌, ◌-◌, ◌/◌, ◌%◌, ◌^◌, ◌<◌, ◌≤◌, min, Bool, true, false, not, cond, eqb, ltb, List, map, length, take, get_or, replicate, w32, refl, sym, ap, ap₂, ◌∙◌, subst, arith, ltb-true, ltb-false}
use Rattle.std.specs.Int.{bit_at}
use Rattle.std.proofs.lemmas.Bool.{eq-eqb, ne_eqb}
use Rattle.std.proofs.lemmas.List.{take_all, length-map, get_or-map}
use Rattle.std.proofs.Math.Nat.{zero-div}
use Rattle.std.proofs.lemmas.Simd.{tops_compared, length-zip2, get_or-zip2, length-sel_l, get_or-sel_l, put_chunk_whole, mask_l-lt, mask_l-mod, bit_mask_l, length-chunk, get_or-chunk, get_or-replicate, Each1-zip2, Each2-splat, Each2-all}
use Rattle.roster_lanes.specs.declared.lower.TheConstants.{LANES}
use lib.Lanes.{Each1, zip2, sel_l, mask_l, top, put_chunk, chunk}

abbrev pub below : ℕ → ℕ → ℕ
below a b = cond (ltb a b) (2 ^ 32 - 1) 0

-- whether the first is below the second, lane by lane
abbrev pub marks : List ℕ → List ℕ → List Bool
marks xs ys = map (top 31) (zip2 below xs ys)

pub length-marks : (xs ys : List ℕ) → length xs ≡ LANES → length ys ≡ LANES → length (marks xs ys) ≡ LANES
length-marks xs ys p q = length-map (zip2 below xs ys) (top 31) ∙ length-zip2 below xs ys (p ∙ sym q) ∙ p

pub marks_at : (xs ys : List ℕ) (i : ℕ) → length xs ≡ LANES → length ys ≡ LANES → i < LANES → get_or (marks xs ys) i false ≡ ltb (get_or xs i 0) (get_or ys i 0)
marks_at xs ys i p q lt =
    ap (λ (l : List Bool). get_or l i false) (tops_compared w32 ltb xs ys)
    ∙ get_or-zip2 ltb xs ys i 0 0 false (omega arith) (omega arith)

least_is : (a b : ℕ) → cond (ltb a b) a b ≡ min a b
least_is a b = go (ltb a b) refl
  where
    go : (t : Bool) → ltb a b ≡ t → cond t a b ≡ min a b
    go true e = omega (arith, ltb-true _ _ e)
    go false e = omega (arith, ltb-false _ _ e)

-- the smaller one of each lane
abbrev pub least : List ℕ → List ℕ → List ℕ
least xs ys = sel_l (marks xs ys) xs ys

pub length-least : (xs ys : List ℕ) → length xs ≡ LANES → length ys ≡ LANES → length (least xs ys) ≡ LANES
length-least xs ys p q =
    let long = length-marks xs ys p q in
    length-sel_l (marks xs ys) xs ys (long ∙ sym p) (long ∙ sym q) ∙ long

pub least_lane : (xs ys : List ℕ) (i : ℕ) → length xs ≡ LANES → length ys ≡ LANES → i < LANES → get_or (least xs ys) i 0 ≡ min (get_or xs i 0) (get_or ys i 0)
least_lane xs ys i p q lt =
    let long = length-marks xs ys p q in
    get_or-sel_l (marks xs ys) xs ys i 0 (omega arith) (omega arith) (omega arith)
    ∙ ap (λ (t : Bool). cond t (get_or xs i 0) (get_or ys i 0)) (marks_at xs ys i p q lt)
    ∙ least_is (get_or xs i 0) (get_or ys i 0)

pub least_at : (xs ys : List ℕ) (i : ℕ) → length xs ≡ LANES → length ys ≡ LANES → i < LANES → get_or (put_chunk 0 xs (least xs ys)) i 0 ≡ min (get_or xs i 0) (get_or ys i 0)
least_at xs ys i p q lt =
    ap (λ (l : List ℕ). get_or l i 0) (put_chunk_whole xs (least xs ys) (p ∙ sym (length-least xs ys p q))) ∙ least_lane xs ys i p q lt

-- ---- the bits: whether the smaller one isn't the first

abbrev pub differs : ℕ → ℕ → ℕ
differs a b = cond (not (eqb a b)) (2 ^ 32 - 1) 0

abbrev pub changed : List ℕ → List ℕ → List Bool
changed xs ys = map (top 31) (zip2 differs (least xs ys) xs)

pub length-changed : (xs ys : List ℕ) → length xs ≡ LANES → length ys ≡ LANES → length (changed xs ys) ≡ LANES
length-changed xs ys p q =
    let long = length-least xs ys p q in
    length-map (zip2 differs (least xs ys) xs) (top 31) ∙ length-zip2 differs (least xs ys) xs (long ∙ sym p) ∙ long

least_differs : (a b : ℕ) → not (eqb (min a b) a) ≡ ltb b a
least_differs a b = go (ltb b a) refl
  where
    go : (t : Bool) → ltb b a ≡ t → not (eqb (min a b) a) ≡ t
    go true e = ap not (ne_eqb _ _ (omega (arith, ltb-true _ _ e)))
    go false e = ap not (eq-eqb _ _ (omega (arith, ltb-false _ _ e)))

pub changed_at : (xs ys : List ℕ) (i : ℕ) → length xs ≡ LANES → length ys ≡ LANES → i < LANES → get_or (changed xs ys) i false ≡ ltb (get_or ys i 0) (get_or xs i 0)
changed_at xs ys i p q lt =
    let test : ℕ → ℕ → Bool = λ a b. not (eqb a b) in
    let long = length-least xs ys p q in
    ap (λ (l : List Bool). get_or l i false) (tops_compared w32 test (least xs ys) xs)
    ∙ get_or-zip2 test (least xs ys) xs i 0 0 false (omega arith) (omega arith)
    ∙ ap (λ (n : ℕ). not (eqb n (get_or xs i 0))) (least_lane xs ys i p q lt)
    ∙ least_differs (get_or xs i 0) (get_or ys i 0)

pub bits_are : (ms : List Bool) → length ms ≡ LANES → mask_l ms % 2 ^ 64 ≡ mask_l ms
bits_are ms long = mask_l-mod ms 64 (omega arith)

-- also of any other comparison
pub bits_fit : (f : ℕ → ℕ → ℕ) (xs ys : List ℕ) → length xs ≡ LANES → length ys ≡ LANES → mask_l (map (top 31) (zip2 f xs ys)) % 2 ^ 64 < 2 ^ 16
bits_fit f xs ys p q =
    let ms = map (top 31) (zip2 f xs ys) in
    let long : length ms ≡ LANES = length-map (zip2 f xs ys) (top 31) ∙ length-zip2 f xs ys (p ∙ sym q) ∙ p in
    subst (λ (n : ℕ). n < 2 ^ 16) (sym (bits_are ms long)) (subst (λ (n : ℕ). mask_l ms < 2 ^ n) long (mask_l-lt ms))

pub bits_at : (xs ys : List ℕ) (i : ℕ) → length xs ≡ LANES → length ys ≡ LANES → i < LANES → bit_at (mask_l (changed xs ys) % 2 ^ 64) i ≡ cond (ltb (get_or ys i 0) (get_or xs i 0)) 1 0
bits_at xs ys i p q lt =
    ap (λ (n : ℕ). n / 2 ^ i % 2) (bits_are (changed xs ys) (length-changed xs ys p q))
    ∙ bit_mask_l (changed xs ys) i
    ∙ ap (λ (t : Bool). cond t 1 0) (changed_at xs ys i p q lt)

pub array_whole : (xs : List ℕ) → length xs ≡ LANES → take LANES xs ≡ xs
array_whole xs p = take_all LANES xs (omega arith)

-- ---- raised labels

pub raised_at : (xs : List ℕ) (first more i : ℕ) → first + LANES ≤ length xs → i < LANES
    → get_or (zip2 (λ a b. (a + b) % 2 ^ 32) (chunk first LANES xs) (replicate LANES more)) i 0 ≡ (get_or xs (first + i) 0 + more) % 2 ^ 32
raised_at xs first more i within lt =
    get_or-zip2 (λ a b. (a + b) % 2 ^ 32) (chunk first LANES xs) (replicate LANES more) i 0 0 0 (omega (arith, length-chunk first LANES xs within)) lt
    ∙ ap₂ (λ a b. (a + b) % 2 ^ 32) (get_or-chunk first LANES xs i 0 lt) (get_or-replicate LANES i more 0 lt)

-- ---- the marks, narrowed to bytes, choose between the old pointers and the new one

abbrev pub same : ℕ → ℕ → ℕ
same a b = cond (eqb a b) (2 ^ 32 - 1) 0

module _ (sign : ℕ → ℕ → ℕ) (narrow : ℕ → ℕ) where
  abbrev pub narrowed : List ℕ → List ℕ → List Bool
  narrowed xs ys = map (top 7) (map narrow (zip2 sign (zip2 same xs ys) (replicate LANES 0)))

  length-signs : (xs ys : List ℕ) → length xs ≡ LANES → length ys ≡ LANES → length (zip2 sign (zip2 same xs ys) (replicate LANES 0)) ≡ LANES
  length-signs xs ys p q = length-zip2 sign (zip2 same xs ys) (replicate LANES 0) (length-zip2 same xs ys (p ∙ sym q) ∙ p) ∙ length-zip2 same xs ys (p ∙ sym q) ∙ p

  length-narrowed : (xs ys : List ℕ) → length xs ≡ LANES → length ys ≡ LANES → length (narrowed xs ys) ≡ LANES
  length-narrowed xs ys p q = let z = zip2 sign (zip2 same xs ys) (replicate LANES 0) in length-map (map narrow z) (top 7) ∙ length-map z narrow ∙ length-signs xs ys p q

  module _ (high : top 7 (narrow (sign (2 ^ 32 - 1) 0)) ≡ true) (low : top 7 (narrow (sign 0 0)) ≡ false) where
    narrow_lane : (t : Bool) → top 7 (narrow (sign (cond t (2 ^ 32 - 1) 0) 0)) ≡ t
    narrow_lane true = high
    narrow_lane false = low

    narrowed_at : (xs ys : List ℕ) (i : ℕ) → length xs ≡ LANES → length ys ≡ LANES → i < LANES → get_or (narrowed xs ys) i false ≡ eqb (get_or xs i 0) (get_or ys i 0)
    narrowed_at xs ys i p q lt =
        let z = zip2 sign (zip2 same xs ys) (replicate LANES 0) in
        let long : length z ≡ LANES = length-signs xs ys p q in
        let lanes : length (zip2 same xs ys) ≡ LANES = length-zip2 same xs ys (p ∙ sym q) ∙ p in
        get_or-map (top 7) (map narrow z) i 0 false (omega (arith, length-map z narrow))
        ∙ ap (top 7) (get_or-map narrow z i 0 0 (omega arith))
        ∙ ap (λ (n : ℕ). top 7 (narrow n)) (get_or-zip2 sign (zip2 same xs ys) (replicate LANES 0) i 0 0 0 (omega arith) lt)
        ∙ ap₂ (λ (m n : ℕ). top 7 (narrow (sign m n))) (get_or-zip2 same xs ys i 0 0 0 (omega arith) (omega arith)) (get_or-replicate LANES i 0 0 lt)
        ∙ narrow_lane (eqb (get_or xs i 0) (get_or ys i 0))

    pub chosen_at : (xs ys ps : List ℕ) (pointer i : ℕ) → length xs ≡ LANES → length ys ≡ LANES → length ps ≡ LANES → i < LANES
        → get_or (put_chunk 0 ps (sel_l (narrowed xs ys) ps (replicate LANES pointer))) i 0 ≡ cond (eqb (get_or xs i 0) (get_or ys i 0)) (get_or ps i 0) pointer
    chosen_at xs ys ps pointer i p q r lt =
        let ms = narrowed xs ys in
        let long : length ms ≡ LANES = length-narrowed xs ys p q in
        ap (λ (l : List ℕ). get_or l i 0) (put_chunk_whole ps (sel_l ms ps (replicate LANES pointer)) (r ∙ sym (length-sel_l ms ps (replicate LANES pointer) (long ∙ sym r) long ∙ long)))
        ∙ get_or-sel_l ms ps (replicate LANES pointer) i 0 (omega arith) (omega arith) lt
        ∙ ap₂ (λ (t : Bool) (n : ℕ). cond t (get_or ps i 0) n) (narrowed_at xs ys i p q lt) (get_or-replicate LANES i pointer 0 lt)

  pub casts_fit : (P : ℕ → Type 0) (xs ys : List ℕ) → length xs ≡ LANES → length ys ≡ LANES → P (sign (2 ^ 32 - 1) 0) → P (sign 0 0) → Each1 P (zip2 sign (zip2 same xs ys) (replicate LANES 0))
  casts_fit P xs ys p q high low =
      Each1-zip2 sign P (zip2 same xs ys) (replicate LANES 0)
      (Each2-splat (λ a b. P (sign a b)) (zip2 same xs ys) LANES 0 (Each1-zip2 same (λ a. P (sign a 0)) xs ys (Each2-all (λ a b. P (sign (same a b) 0)) (λ a b. go (eqb a b)) xs ys)))
    where
      go : (t : Bool) → P (sign (cond t (2 ^ 32 - 1) 0) 0)
      go true = high
      go false = low

-- ---- if no bit is set, nothing is lower

pub none_lower : (bits j a b : ℕ) → bits ≡ 0 → bit_at bits j ≡ cond (ltb a b) 1 0 → ltb a b ≡ false
none_lower bits j a b none bit = go (ltb a b) (sym (ap (λ (n : ℕ). n / 2 ^ j % 2) none ∙ ap (λ (n : ℕ). n % 2) (zero-div (2 ^ j))) ∙ bit)
  where
    go : (t : Bool) → 0 % 2 ≡ cond t 1 0 → t ≡ false
    go true e = absurd (omega arith)
    go false e = refl

pub stays : (bits j a b c d old new : ℕ) → bits ≡ 0 → bit_at bits j ≡ cond (ltb a b) 1 0 → a ≡ c → b ≡ d → old ≡ cond (ltb c d) new old
stays bits j a b c d old new none bit p q = sym (ap (λ (t : Bool). cond t new old) (ap₂ ltb (sym p) (sym q) ∙ none_lower bits j a b none bit))
