-- The weeks of a roster, one after the other.
use Rattle.std.proofs.Common.{◌≡◌, ◌∙◌, ◌+◌, ◌-◌, ◌<◌, ℕ, cond, true, refl, sym, ap, subst, arith, List, [], ◌∷◌, ◌++◌, append-nil, append_assoc, codes, length, map, nat_lt, Option, Result, Ok, Err, lt-ltb}
use Rattle.std.specs.Prelude.{IfErr, IfOk}
use Rattle.std.specs.List.{join_with_byte, range_with_len}
use Rattle.std.proofs.lemmas.List.{length-map, map-append}
use Rattle.std.proofs.lemmas.List.FromFn.{length-range_with_len, map-range_with_len_more}
use Rattle.roster_bundle.specs.Canonical.{canonical}
use Rattle.roster_text.specs.Io.{BreaksIn, Sends, Watched}
use Rattle.roster_text.specs.declared.fault.WriteFault.{WriteFault}
use Rattle.roster_text.proofs.Texts.{BreaksIn-after, Sends-append}
use Rattle.roster_bundle.proofs.Ranges.{range_with_len-add}
use Rattle.roster_instance.specs.Meaning.{Meaning, week_count}
use Rattle.roster_instance.specs.Rosters.{Rows}
use Rattle.roster_case.specs.Shown.{shown_week, weeks_text}
use Rattle.roster_reports.specs.Lines.{Text}

-- ---- pieces with a byte between two

join-push : (c : ℕ) (xs : List Text) (y : Text) → join_with_byte c (xs ++ y ∷ []) ≡ join_with_byte c xs ++ (cond (nat_lt 0 (length xs)) (c ∷ []) [] ++ y)
join-push c [] y = refl
join-push c (x ∷ []) y = refl
join-push c (x ∷ z ∷ xs) y =
    let some : nat_lt 0 (length (x ∷ z ∷ xs)) ≡ true = lt-ltb 0 (length (x ∷ z ∷ xs)) (omega arith) in
    let later : nat_lt 0 (length (z ∷ xs)) ≡ true = lt-ltb 0 (length (z ∷ xs)) (omega arith) in
    ap (λ rest. x ++ (c ∷ rest)) (join-push c (z ∷ xs) y ∙ ap (λ b. join_with_byte c (z ∷ xs) ++ (cond b (c ∷ []) [] ++ y)) later)
    ∙ sym (append_assoc x (c ∷ join_with_byte c (z ∷ xs)) (c ∷ y))
    ∙ sym (ap (λ b. join_with_byte c (x ∷ z ∷ xs) ++ (cond b (c ∷ []) [] ++ y)) some)

-- what comes before in the whole
join-front : (c : ℕ) (xs ys : List Text) → (zs : Text) × (join_with_byte c (xs ++ ys) ≡ join_with_byte c xs ++ zs)
join-front c [] ys = (join_with_byte c ys, refl)
join-front c (x ∷ []) [] = ([], sym (append-nil x))
join-front c (x ∷ []) (y ∷ ys) = (c ∷ join_with_byte c (y ∷ ys), refl)
join-front c (x ∷ z ∷ xs) ys =
    let later = join-front c (z ∷ xs) ys in
    (later.0, ap (λ rest. x ++ (c ∷ rest)) later.1 ∙ sym (append_assoc x (c ∷ join_with_byte c (z ∷ xs)) later.0))

-- ---- the weeks up to one

module _ (c : Meaning) (r : Rows) where
  abbrev text : ℕ → Text
  text i = canonical (shown_week c r i)

  -- the text of the first i weeks, and week i, after an empty line if it is not the first
  abbrev pub front_text : ℕ → Text
  front_text i = join_with_byte 10 (map text (range_with_len 0 i))

  abbrev pub week_piece : ℕ → Text
  week_piece i = cond (nat_lt 0 i) (codes "\n") [] ++ text i

  count : (i : ℕ) → length (map text (range_with_len 0 i)) ≡ i
  count i = length-map (range_with_len 0 i) text ∙ length-range_with_len 0 i

  -- one more week
  pub front_text-more : (i : ℕ) → front_text (i + 1) ≡ front_text i ++ week_piece i
  front_text-more i =
      ap (join_with_byte 10) (map-range_with_len_more text 0 i i (omega arith)) ∙ join-push 10 (map text (range_with_len 0 i)) (text i)
      ∙ ap (λ n. front_text i ++ (cond (nat_lt 0 n) (10 ∷ []) [] ++ text i)) (count i)

  pub front_text-all : weeks_text c r ≡ front_text (week_count c)
  unfolding weeks_text
  front_text-all = refl

  pub front_text-front : (i n : ℕ) → i < n → (zs : Text) × (front_text n ≡ front_text i ++ week_piece i ++ zs)
  front_text-front i n within =
      let rest = range_with_len (0 + (i + 1)) (n - (i + 1)) in
      let whole : range_with_len 0 n ≡ range_with_len 0 (i + 1) ++ rest =
      ap (range_with_len 0) (omega (arith, within)) ∙ range_with_len-add 0 (i + 1) (n - (i + 1)) in
      let front = join-front 10 (map text (range_with_len 0 (i + 1))) (map text rest) in (
        front.0,
        ap (λ xs. join_with_byte 10 (map text xs)) whole ∙ ap (join_with_byte 10) (map-append text (range_with_len 0 (i + 1)) rest) ∙ front.1
            ∙ ap (λ xs. xs ++ front.0) (front_text-more i),
      )

-- ---- one week that isn't whole yet

module _ {W : Type 0} (contents : W → Option (List ℕ)) (old mid new : Watched W) (before between : ℕ) (front text : Text) (sends : Sends contents old mid before between front) where
  pub IfOk-after : (r : Result ℕ WriteFault) (shown : Text) → shown ≡ text → IfOk r (λ after. Sends contents mid new between after shown) → IfOk r (λ after. Sends contents old new before after (front ++ text))
  IfOk-after (Ok after) shown e h = Sends-append contents old mid new before between after front text sends (subst (Sends contents mid new between after) e h)
  IfOk-after (Err f) shown e h = tt

  pub IfErr-after : (r : Result ℕ WriteFault) (shown : Text) → shown ≡ text → IfErr r (BreaksIn contents mid new between shown) → IfErr r (BreaksIn contents old new before (front ++ text))
  IfErr-after (Ok x) shown e h = tt
  IfErr-after (Err f) shown e h = BreaksIn-after contents old mid new before between front text f sends (subst (λ t. BreaksIn contents mid new between t f) e h)
