-- Pointers in the halves of bytes, when consecutive ones are set.
use Rattle.std.proofs.Common.{◌≡◌, ◌∙◌, ◌+◌, ◌-◌, ◌<◌, ◌≤◌, ◌⊎◌, ℕ, min, inl, inr, ap, arith, refl, subst, sym, List, ◌++◌, length, map, drop, get_or, slice_index_or, take}
use Rattle.std.proofs.lemmas.Bool.{cases_lt}
use Rattle.std.proofs.lemmas.List.{ext_get_or, get_or-append_right, get_or-drop, get_or-map, get_or-take, get_or_append_left, get_or_past, length-append, length-drop, length-map, length-take, map-append, take-append-drop}
use borrow.Rule.Slice.PartMut.{mid_of, post_of, put_mid}
use Rattle.roster_offers.proofs.PartLaws.{part_before, part_after, part_inside, part_length}
use Rattle.roster_tables.specs.Halves.{IsWritten, halves, high, low}

-- ---- a half of all bytes

module _ (half : ℕ → ℕ) where
  pub halves_are : (bytes run : List ℕ) → length run ≡ length bytes → ((k : ℕ) → k < length run → half (get_or bytes k 0) ≡ get_or run k 0) → map half bytes ≡ run
  halves_are bytes run long is =
      ext_get_or 0 (map half bytes) run (length-map bytes half ∙ sym long) (λ k below.
      let in_map : k < length (map half bytes) = below in
      let inside : k < length bytes = omega (arith, in_map, length-map bytes half) in
      get_or-map half bytes k 0 0 inside ∙ is k (omega (arith, inside, long)))

  pub halves_kept : (old new : List ℕ) → length new ≡ length old → ((k : ℕ) → half (get_or new k 0) ≡ half (get_or old k 0)) → map half new ≡ map half old
  halves_kept old new long is =
      halves_are new (map half old) (length-map old half ∙ sym long) (λ k below.
      let in_map : k < length (map half old) = below in
      is k ∙ sym (get_or-map half old k 0 0 (omega (arith, in_map, length-map old half))))

  map_past : half 0 ≡ 0 → (bytes : List ℕ) (k : ℕ) → get_or (map half bytes) k 0 ≡ half (get_or bytes k 0)
  map_past none bytes k = go (cases_lt k (length bytes))
    where
      go : (k < length bytes) ⊎ (length bytes ≤ k) → get_or (map half bytes) k 0 ≡ half (get_or bytes k 0)
      go (inl inside) = get_or-map half bytes k 0 0 inside
      go (inr past) = get_or_past (map half bytes) k 0 (omega (arith, past, length-map bytes half)) ∙ sym none ∙ sym (ap half (get_or_past bytes k 0 past))

-- ---- a run is written

pub written_taken : (first : ℕ) (run old new : List ℕ) (n : ℕ) → first + length run ≤ n → IsWritten first run old new → IsWritten first run (take n old) (take n new)
written_taken first run old new n capacity is = record {
  inside = λ i below. get_or-take n new (first + i) 0 (omega (arith, capacity, below)) ∙ is.inside i below;
  others = record {
    before = λ place h. get_or-take n new place 0 (omega (arith, capacity, h)) ∙ is.others.before place h ∙ sym (get_or-take n old place 0 (omega (arith, capacity, h)));
    after = λ place h. go place h (cases_lt place n);
  };
  length_stays = length-take n new ∙ ap (min n) is.length_stays ∙ sym (length-take n old);
}
  where
    go : (place : ℕ) → first + length run ≤ place → (place < n) ⊎ (n ≤ place) → slice_index_or (take n new) place 0 ≡ slice_index_or (take n old) place 0
    go place h (inl below) = get_or-take n new place 0 below ∙ is.others.after place h ∙ sym (get_or-take n old place 0 below)
    go place h (inr past) = get_or_past (take n new) place 0 (omega (arith, past, length-take n new)) ∙ sym (get_or_past (take n old) place 0 (omega (arith, past, length-take n old)))

-- a front of the run, and then the rest after it
pub written_both : (first : ℕ) (run : List ℕ) (m : ℕ) → m ≤ length run → (front back : List ℕ) → front ≡ take m run → back ≡ drop m run → (old middle new : List ℕ) → IsWritten first front old middle → IsWritten (first + m) back middle new → IsWritten first run old new
written_both first run m short front back front_is back_is old middle new low_is high_is = record {
  inside = λ i below. inside i below (cases_lt i m);
  others = record {
    before = λ place h. high_is.others.before place (omega (arith, h)) ∙ low_is.others.before place h;
    after = λ place h. high_is.others.after place (omega (arith, h, back_long, short)) ∙ low_is.others.after place (omega (arith, h, front_long, short));
  };
  length_stays = high_is.length_stays ∙ low_is.length_stays;
}
  where
    front_long : length front ≡ m
    front_long = rw front_is (omega (arith, short, length-take m run))

    back_long : length back ≡ length run - m
    back_long = rw back_is (length-drop m run)

    inside : (i : ℕ) → i < length run → (i < m) ⊎ (m ≤ i) → slice_index_or new (first + i) 0 ≡ slice_index_or run i 0
    inside i below (inl low) =
        high_is.others.before (first + i) (omega (arith, low)) ∙ low_is.inside i (omega (arith, low, front_long)) ∙ ap (λ xs. slice_index_or xs i 0) front_is ∙ get_or-take m run i 0 low
    inside i below (inr past) =
        let place : first + i ≡ first + m + (i - m) = omega (arith, past) in
        let index : m + (i - m) ≡ i = omega (arith, past) in
        ap (λ j. slice_index_or new j 0) place ∙ high_is.inside (i - m) (omega (arith, past, below, back_long)) ∙ ap (λ xs. slice_index_or xs (i - m) 0) back_is ∙ get_or-drop m run (i - m) 0 ∙ ap (λ j. slice_index_or run j 0) index

-- ---- among the halves of bytes

pub written_front : (first : ℕ) (run old new back : List ℕ) → first + length run ≤ length old → IsWritten first run old new → IsWritten first run (old ++ back) (new ++ back)
written_front first run old new back capacity is = record {
  inside = λ i below. get_or_append_left new back 0 (first + i) (omega (arith, below, capacity, is.length_stays)) ∙ is.inside i below;
  others = record {
    before = λ place h. at place (is.others.before place h) (cases_lt place (length old));
    after = λ place h. at place (is.others.after place h) (cases_lt place (length old));
  };
  length_stays = length-append new back ∙ ap (λ n. n + length back) is.length_stays ∙ sym (length-append old back);
}
  where
    at : (place : ℕ) → slice_index_or new place 0 ≡ slice_index_or old place 0 → (place < length old) ⊎ (length old ≤ place) → slice_index_or (new ++ back) place 0 ≡ slice_index_or (old ++ back) place 0
    at place same (inl low) = get_or_append_left new back 0 place (omega (arith, low, is.length_stays)) ∙ same ∙ sym (get_or_append_left old back 0 place low)
    at place same (inr past) = get_or-append_right new back (length old) place 0 is.length_stays past ∙ sym (get_or-append_right old back (length old) place 0 refl past)

pub written_back : (first : ℕ) (run old new front : List ℕ) (n : ℕ) → length front ≡ n → IsWritten first run old new → IsWritten (n + first) run (front ++ old) (front ++ new)
written_back first run old new front n long is = record {
  inside = λ i below.
      let index : n + first + i - n ≡ first + i = omega arith in
      get_or-append_right front new n (n + first + i) 0 long (omega arith) ∙ ap (λ j. get_or new j 0) index ∙ is.inside i below;
  others = record {
    before = λ place h. before place h (cases_lt place n);
    after = λ place h. get_or-append_right front new n place 0 long (omega (arith, h)) ∙ is.others.after (place - n) (omega (arith, h)) ∙ sym (get_or-append_right front old n place 0 long (omega (arith, h)));
  };
  length_stays = length-append front new ∙ ap (λ k. length front + k) is.length_stays ∙ sym (length-append front old);
}
  where
    before : (place : ℕ) → place < n + first → (place < n) ⊎ (n ≤ place) → slice_index_or (front ++ new) place 0 ≡ slice_index_or (front ++ old) place 0
    before place h (inl low) = get_or_append_left front new 0 place (omega (arith, low, long)) ∙ sym (get_or_append_left front old 0 place (omega (arith, low, long)))
    before place h (inr past) = get_or-append_right front new n place 0 long past ∙ is.others.before (place - n) (omega (arith, h, past)) ∙ sym (get_or-append_right front old n place 0 long past)

-- one half of some bytes is set to a run, the other half stays
module _ (a : ℕ) (old part run : List ℕ) (long : length part ≡ length run) (capacity : a + length run ≤ length old) where
  fits : a + length part ≤ length old
  fits = omega (arith, long, capacity)

  set_half : (half : ℕ → ℕ) → half 0 ≡ 0 → map half part ≡ run → IsWritten a run (map half old) (map half (put_mid a (length part) old part))
  set_half half none is = record {
    inside = λ i below. map_past half none (put_mid a (length part) old part) (a + i) ∙ ap half (part_inside a old part fits i (omega (arith, below, long))) ∙ sym (map_past half none part i) ∙ ap (λ xs. get_or xs i 0) is;
    others = record {
      before = λ place h. map_past half none (put_mid a (length part) old part) place ∙ ap half (part_before a old part fits place h) ∙ sym (map_past half none old place);
      after = λ place h. map_past half none (put_mid a (length part) old part) place ∙ ap half (part_after a old part fits place (omega (arith, h, long))) ∙ sym (map_past half none old place);
    };
    length_stays = length-map (put_mid a (length part) old part) half ∙ part_length a old part fits ∙ sym (length-map old half);
  }

  kept_half : (half : ℕ → ℕ) → map half part ≡ map half (mid_of a (length part) old) → map half (put_mid a (length part) old part) ≡ map half old
  kept_half half is =
      let front = take a old in
      let middle = mid_of a (length part) old in
      let back = post_of a (length part) old in
      let whole : front ++ (middle ++ back) ≡ old = ap (λ xs. front ++ xs) (take-append-drop (length part) (drop a old)) ∙ take-append-drop a old in
      let middle_same : map half (part ++ back) ≡ map half (middle ++ back) = map-append half part back ∙ ap (λ xs. xs ++ map half back) is ∙ sym (map-append half middle back) in
      map-append half front (part ++ back) ∙ ap (λ xs. map half front ++ xs) middle_same ∙ sym (map-append half front (middle ++ back)) ∙ ap (map half) whole

  pub low_written : (k : ℕ) → length part ≡ k → map low part ≡ run → map high part ≡ map high (mid_of a k old) → IsWritten a run (halves old) (halves (put_mid a k old part))
  low_written k size set kept =
      let stays : map high part ≡ map high (mid_of a (length part) old) = subst (λ j. map high part ≡ map high (mid_of a j old)) (sym size) kept in
      subst (λ j. IsWritten a run (halves old) (halves (put_mid a j old part))) size
      (subst (λ back. IsWritten a run (map low old ++ map high old) (map low (put_mid a (length part) old part) ++ back)) (sym (kept_half high stays))
      (written_front a run (map low old) (map low (put_mid a (length part) old part)) (map high old) (omega (arith, capacity, length-map old low)) (set_half low refl set)))

  pub high_written : (k : ℕ) → length part ≡ k → map high part ≡ run → map low part ≡ map low (mid_of a k old) → IsWritten (length old + a) run (halves old) (halves (put_mid a k old part))
  high_written k size set kept =
      let stays : map low part ≡ map low (mid_of a (length part) old) = subst (λ j. map low part ≡ map low (mid_of a j old)) (sym size) kept in
      subst (λ j. IsWritten (length old + a) run (halves old) (halves (put_mid a j old part))) size
      (subst (λ front. IsWritten (length old + a) run (map low old ++ map high old) (front ++ map high (put_mid a (length part) old part))) (sym (kept_half low stays))
      (written_back a run (map high old) (map high (put_mid a (length part) old part)) (map low old) (length old) (length-map old low) (set_half high refl set)))
