-- The number of tokens that begin in a range of positions, counted one by one and by vectors.
use Rattle.std.proofs.Common.{◌≡◌, ◌∙◌, ℕ, zero, suc, ◌+◌, ◌-◌, ◌<◌, ◌≤◌, ◌%◌, ◌^◌, ◌&&◌, ◌||◌, Bool, true, false, not, cond, eqb, Option, Some, None, is_some, List, [], ◌∷◌, map, length, get_or, bit_and, bit_or, replicate, refl, sym, ap, ap₂, arith, w8, Fits, lt-ltb}
use Rattle.std.specs.Prelude.{count_by}
use Rattle.std.specs.List.{cons_option, filter_map, range_with_len}
use Rattle.std.proofs.lemmas.Bool.{agree_below, agree_below_at}
use Rattle.std.proofs.lemmas.List.{length-map}
use Rattle.std.proofs.lemmas.List.FromFn.{length-range_with_len}
use Rattle.std.proofs.lemmas.List.Sums.{count_by-le-length, sum_by-cons}
use Rattle.std.proofs.lemmas.Simd.{bitmask_splat, map-map, ones-mask_l, pick_l-range_with_len, zip2_of_maps, zip2_splat}
use Rattle.std.specs.Int.RustNames.{count_ones}
use Rattle.roster_bundle.specs.Token.{begins_at, follows_word_byte, is_mark, is_separator, is_word_byte, token_at, tokens_from}
use Rattle.roster_text.specs.Starts.{lanes_where, starts_in}
use lib.Lanes.{Each1, chunk, mask_l, sel_l, top, zip2}

-- ---- counts

count-step : {X : Type 0} (p : X → Bool) (x : X) (xs : List X) → count_by p (x ∷ xs) ≡ cond (p x) 1 0 + count_by p xs
count-step p x xs = sum_by-cons (λ y. cond (p y) 1 0) x xs

one_more : {X : Type 0} (o : Option X) (xs : List X) → length (cons_option o xs) ≡ cond (is_some o) 1 0 + length xs
one_more None xs = omega arith
one_more (Some x) xs = omega arith

given : {X : Type 0} (b : Bool) (x : X) → is_some (cond b (Some x) None) ≡ b
given true x = refl
given false x = refl

tokens_at : (text : List ℕ) (places : List ℕ) → length (filter_map (token_at text) places) ≡ count_by (begins_at text) places
unfolding token_at
tokens_at text [] = refl
tokens_at text (k ∷ ks) =
    one_more (token_at text k) (filter_map (token_at text) ks) ∙ ap₂ {C = ℕ} (λ b n. cond b 1 0 + n) (given (begins_at text k) _) (tokens_at text ks) ∙ sym (count-step (begins_at text) k ks)

pub length-tokens_from : (text : List ℕ) (i : ℕ) → length (tokens_from text i) ≡ starts_in text i (length text - i)
unfolding tokens_from starts_in
length-tokens_from text i = tokens_at text (range_with_len i (length text - i))

-- a range of positions, split in two
starts_more : (text : List ℕ) (i m n : ℕ) → starts_in text i (m + n) ≡ starts_in text i m + starts_in text (i + m) n
unfolding starts_in
starts_more text i zero n =
    let here : i ≡ i + zero = omega arith in
    let none : zero + n ≡ n = omega arith in
    let p = begins_at text in
    ap (λ k. count_by p (range_with_len i k)) none ∙ ap (λ j. count_by p (range_with_len j n)) here ∙ omega arith
starts_more text i (suc m) n =
    let more : suc m + n ≡ suc (m + n) = omega arith in
    let next : i + 1 + m ≡ i + suc m = omega arith in
    let p = begins_at text in
    ap (λ k. count_by p (range_with_len i k)) more ∙ count-step p i (range_with_len (i + 1) (m + n)) ∙ ap (λ k. cond (p i) 1 0 + k) (starts_more text (i + 1) m n)
    ∙ omega (arith, count-step p i (range_with_len (i + 1) m), ap (λ j. count_by p (range_with_len j n)) next)

pub starts_upto : (text : List ℕ) (m n : ℕ) → starts_in text 0 (m + n) ≡ starts_in text 0 m + starts_in text m n
starts_upto text m n = let same : 0 + m ≡ m = omega arith in starts_more text 0 m n ∙ ap (λ j. starts_in text 0 m + starts_in text j n) same

pub starts-le : (text : List ℕ) (i n : ℕ) → starts_in text i n ≤ n
unfolding starts_in
starts-le text i n = omega (arith, count_by-le-length (begins_at text) (range_with_len i n), length-range_with_len i n)

starts_one : (text : List ℕ) (i : ℕ) → starts_in text i 1 ≡ cond (begins_at text i) 1 0
unfolding starts_in
starts_one text i = count-step (begins_at text) i [] ∙ omega arith

-- one more position
pub starts_next : (text : List ℕ) (from at : ℕ) → from ≤ at → starts_in text from (at + 1 - from) ≡ starts_in text from (at - from) + cond (begins_at text at) 1 0
starts_next text from at order =
    let more : at + 1 - from ≡ at - from + 1 = omega arith in
    let position : from + (at - from) ≡ at = omega arith in
    ap (starts_in text from) more ∙ starts_more text from (at - from) 1 ∙ ap (λ j. starts_in text from (at - from) + starts_in text j 1) position
    ∙ ap (λ k. starts_in text from (at - from) + k) (starts_one text at)

-- ---- lanes

abbrev pub hit : ℕ → ℕ → ℕ
hit a b = cond (eqb a b) 255 0

-- every bit of a lane, or none
chosen : (p : ℕ → Bool) (n : ℕ) (bytes : List ℕ) → length bytes ≡ n → sel_l (map p bytes) (replicate n 255) (replicate n 0) ≡ lanes_where p bytes
chosen p n [] long = refl
chosen p n (b ∷ bs) long =
    let one_more : n ≡ suc (length bs) = omega arith in
    rw one_more (ap (λ xs. cond (p b) 255 0 ∷ xs) (chosen p (length bs) bs refl))

-- lanes that were computed byte by byte, if each of the 256 bytes gives what the test says
tops_agree : (f : ℕ → ℕ) (p : ℕ → Bool) → agree_below (λ b. top 7 (f b)) p 256 ≡ true → (bytes : List ℕ) → Each1 (Fits w8) bytes → map (top 7) (map f bytes) ≡ map p bytes
tops_agree f p all [] fits = refl
tops_agree f p all (b ∷ bs) fits = ap₂ (λ x xs. x ∷ xs) (agree_below_at (λ c. top 7 (f c)) p 256 b all fits.0.fits) (tops_agree f p all bs fits.1)

pub lanes_are : (f : ℕ → ℕ) (p : ℕ → Bool) (bytes z : List ℕ) → (length bytes ≡ 64) × Each1 (Fits w8) bytes → z ≡ map f bytes → agree_below (λ b. top 7 (f b)) p 256 ≡ true
    → sel_l (map (top 7) z) (replicate 64 255) (replicate 64 0) ≡ lanes_where p bytes
lanes_are f p bytes z fits lanes all =
    ap (λ (ms : List Bool). sel_l ms (replicate 64 255) (replicate 64 0)) (ap (map (top 7)) lanes ∙ tops_agree f p all bytes fits.1) ∙ chosen p 64 bytes fits.0

-- the lanes of three tests of a byte, the first with some of its bits set
pub three : (bits x y z : ℕ) (bytes : List ℕ) → length bytes ≡ 64
    → zip2 bit_or (zip2 bit_or (zip2 hit (zip2 bit_or bytes (replicate 64 bits)) (replicate 64 x)) (zip2 hit bytes (replicate 64 y))) (zip2 hit bytes (replicate 64 z))
    ≡ map (λ b. bit_or (bit_or (hit (bit_or b bits) x) (hit b y)) (hit b z)) bytes
three bits x y z bytes long =
    let set = zip2_splat bit_or bytes 64 bits long in
    let first = ap (λ (ls : List ℕ). zip2 hit ls (replicate 64 x)) set ∙ zip2_splat hit (map (λ b. bit_or b bits) bytes) 64 x (length-map bytes (λ b. bit_or b bits) ∙ long)
    ∙ map-map (λ a. hit a x) (λ b. bit_or b bits) bytes in
    zip2_of_maps bit_or (λ b. bit_or (hit (bit_or b bits) x) (hit b y)) (λ b. hit b z) bytes
    (zip2_of_maps bit_or (λ b. hit (bit_or b bits) x) (λ b. hit b y) bytes first (zip2_splat hit bytes 64 y long)) (zip2_splat hit bytes 64 z long)

-- the bytes of a load, by their positions
loaded : (text : List ℕ) (at n : ℕ) → at + n ≤ length text → chunk at n text ≡ map (λ k. get_or text k 0) (range_with_len at n)
loaded text at n room = sym (pick_l-range_with_len 0 text at n room)

shifted : (f : ℕ → ℕ) (at n : ℕ) → 0 < at → map f (range_with_len (at - 1) n) ≡ map (λ k. f (k - 1)) (range_with_len at n)
shifted f at zero after = refl
shifted f at (suc n) after =
    let next : at - 1 + 1 ≡ at + 1 - 1 = omega arith in
    ap (λ xs. f (at - 1) ∷ xs) (ap (λ j. map f (range_with_len j n)) next ∙ shifted f (at + 1) n (omega arith))

-- the load that begins one position earlier
loaded_before : (text : List ℕ) (at n : ℕ) → 0 < at → at + n ≤ length text → chunk (at - 1) n text ≡ map (λ k. get_or text (k - 1) 0) (range_with_len at n)
loaded_before text at n after room = loaded text (at - 1) n (omega arith) ∙ shifted (λ k. get_or text k 0) at n after

abbrev pub lane : (ℕ → Bool) → ℕ → ℕ
lane p b = cond (p b) 255 0

-- what a lane says of a byte, depending on its class and on that of the byte before
abbrev pub said : Bool → Bool → Bool → Bool → ℕ
said mark separator mark_before separator_before = bit_or (cond mark 255 0) (bit_and (bit_or (cond separator_before 255 0) (cond mark_before 255 0)) (cond separator 0 255))

said_agrees : (mark separator mark_before separator_before : Bool)
    → eqb (said mark separator mark_before separator_before) 255 ≡ (mark || (not (separator || mark) && not (not (separator_before || mark_before))))
said_agrees true true true true = refl
said_agrees true true true false = refl
said_agrees true true false true = refl
said_agrees true true false false = refl
said_agrees true false true true = refl
said_agrees true false true false = refl
said_agrees true false false true = refl
said_agrees true false false false = refl
said_agrees false true true true = refl
said_agrees false true true false = refl
said_agrees false true false true = refl
said_agrees false true false false = refl
said_agrees false false true true = refl
said_agrees false false true false = refl
said_agrees false false false true = refl
said_agrees false false false false = refl

-- `none` inverts the bits of a lane
module _ (none : ℕ → ℕ) (none_of_all : none 255 ≡ 0) (none_of_none : none 0 ≡ 255) where
  turns : (separator : Bool) → none (cond separator 255 0) ≡ cond separator 0 255
  turns true = none_of_all
  turns false = none_of_none

  module _ (text : List ℕ) where
    abbrev said_at : ℕ → ℕ
    said_at k = bit_or (lane is_mark (get_or text k 0)) (bit_and (bit_or (lane is_separator (get_or text (k - 1) 0)) (lane is_mark (get_or text (k - 1) 0))) (none (lane is_separator (get_or text k 0))))

    marks_at : (k : ℕ) → 0 < k → eqb (said_at k) 255 ≡ begins_at text k
    unfolding begins_at follows_word_byte is_word_byte
    marks_at k after =
        ap (λ t. eqb (bit_or (lane is_mark (get_or text k 0)) (bit_and (bit_or (lane is_separator (get_or text (k - 1) 0)) (lane is_mark (get_or text (k - 1) 0))) t)) 255) (turns (is_separator (get_or text k 0)))
        ∙ said_agrees (is_mark (get_or text k 0)) (is_separator (get_or text k 0)) (is_mark (get_or text (k - 1) 0)) (is_separator (get_or text (k - 1) 0))
        ∙ ap (λ b. is_mark (get_or text k 0) || (is_word_byte (get_or text k 0) && not (b && is_word_byte (get_or text (k - 1) 0)))) (sym (lt-ltb 0 k after))

    marks_all : (at n : ℕ) → 0 < at → map (λ k. eqb (said_at k) 255) (range_with_len at n) ≡ map (begins_at text) (range_with_len at n)
    marks_all at zero after = refl
    marks_all at (suc n) after = ap₂ (λ b bs. b ∷ bs) (marks_at at after) (marks_all (at + 1) n (omega arith))

    module _ (at n : ℕ) (after : 0 < at) (room : at + n ≤ length text) (few : n ≤ 64) where
      lanes_at : (p : ℕ → Bool) {ls : List ℕ} → ls ≡ lanes_where p (chunk at n text) → ls ≡ map (λ k. lane p (get_or text k 0)) (range_with_len at n)
      lanes_at p e = e ∙ ap (lanes_where p) (loaded text at n room) ∙ map-map (lane p) (λ k. get_or text k 0) (range_with_len at n)

      lanes_before : (p : ℕ → Bool) {ls : List ℕ} → ls ≡ lanes_where p (chunk (at - 1) n text) → ls ≡ map (λ k. lane p (get_or text (k - 1) 0)) (range_with_len at n)
      lanes_before p e = e ∙ ap (lanes_where p) (loaded_before text at n after room) ∙ map-map (lane p) (λ k. get_or text (k - 1) 0) (range_with_len at n)

      -- the vectors of marks and separators, and the same two for the positions before
      pub counted : {ms ss msb ssb : List ℕ} → ms ≡ lanes_where is_mark (chunk at n text) → ss ≡ lanes_where is_separator (chunk at n text)
          → msb ≡ lanes_where is_mark (chunk (at - 1) n text) → ssb ≡ lanes_where is_separator (chunk (at - 1) n text)
          → count_ones (mask_l (map (top 7) (zip2 hit (zip2 bit_or ms (zip2 bit_and (zip2 bit_or ssb msb) (map none ss))) (replicate n 255))) % 2 ^ 64) ≡ starts_in text at n
      unfolding starts_in
      counted {ms = ms} {ss = ss} {msb = msb} {ssb = ssb} m s mb sb =
          let ks = range_with_len at n in
          let turned : map none ss ≡ map (λ k. none (lane is_separator (get_or text k 0))) ks = ap (map none) (lanes_at is_separator s) ∙ map-map none (λ k. lane is_separator (get_or text k 0)) ks in
          let all = zip2_of_maps bit_or (λ k. lane is_mark (get_or text k 0))
          (λ k. bit_and (bit_or (lane is_separator (get_or text (k - 1) 0)) (lane is_mark (get_or text (k - 1) 0))) (none (lane is_separator (get_or text k 0)))) ks
          (lanes_at is_mark m)
          (zip2_of_maps bit_and (λ k. bit_or (lane is_separator (get_or text (k - 1) 0)) (lane is_mark (get_or text (k - 1) 0))) (λ k. none (lane is_separator (get_or text k 0))) ks
          (zip2_of_maps bit_or (λ k. lane is_separator (get_or text (k - 1) 0)) (λ k. lane is_mark (get_or text (k - 1) 0)) ks (lanes_before is_separator sb) (lanes_before is_mark mb)) turned) in
          ap count_ones
          (ap (λ (ls : List ℕ). mask_l (map (top 7) (zip2 hit ls (replicate n 255))) % 2 ^ 64) all
          ∙ bitmask_splat w8 eqb (map said_at ks) n 255 (length-map ks said_at ∙ length-range_with_len at n) few
          ∙ ap mask_l (map-map (λ x. eqb x 255) said_at ks ∙ marks_all at n after))
          ∙ ones-mask_l (begins_at text) ks
