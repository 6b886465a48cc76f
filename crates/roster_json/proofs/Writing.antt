-- Texts that are written one after another, without counts.
use Rattle.std.proofs.Common.{◌∙◌, ◌+◌, ◌-◌, ◌<◌, ◌++◌, ◌∷◌, [], ℕ, Err, List, Ok, Option, Result, ap, append-nil, drop, flat_map, get_or, length, subst, sym, take}
use Rattle.std.specs.Prelude.{OnErr, OnOk}
use Rattle.std.specs.List.{range_with_len}
use Rattle.std.proofs.lemmas.List.Concat.{flat_map-append}
use Rattle.std.proofs.lemmas.List.{take_more}
use Rattle.roster_bundle.proofs.Ranges.{flat_map-range_more}
use Rattle.roster_text.specs.Io.{Stops, Watched, Writes}
use Rattle.roster_text.proofs.Texts.{Stops-after, Stops-append, Writes-append, flat_map-range_split, flat_map-split}
use Rattle.roster_instance.specs.Faults.{below}
use Rattle.roster_reports.specs.Lines.{Text}

-- what holds anyway holds if there is an error
pub OnErr-always : {X E : Type 0} (r : Result X E) (P : Type 0) → P → OnErr r P
OnErr-always (Ok x) P p = tt
OnErr-always (Err e) P p = p

module _ {W : Type 0} (contents : W → Option (List ℕ)) (old mid new : Watched W) (front : Text) (written : Writes contents old mid front) where
  -- the last text of several
  pub last_ok : {X E : Type 0} (r : Result X E) (text : Text) → OnOk r (Writes contents mid new text) → OnOk r (Writes contents old new (front ++ text))
  last_ok (Ok x) text h = Writes-append contents old mid new front text written h
  last_ok (Err e) text h = tt

  pub last_err : {X E : Type 0} (r : Result X E) (text : Text) → OnErr r (Stops contents mid new text) → OnErr r (Stops contents old new (front ++ text))
  last_err (Ok x) text h = tt
  last_err (Err e) text h = Stops-after contents old mid new front text written h

  -- a text between others
  pub inner_stops : (text rest : Text) → Stops contents mid new text → Stops contents old new ((front ++ text) ++ rest)
  inner_stops text rest h = Stops-append contents old new (front ++ text) rest (Stops-after contents old mid new front text written h)

-- ---- one text for each number below n

module _ {W : Type 0} (contents : W → Option (List ℕ)) (old mid new : Watched W) (f : ℕ → Text) (i : ℕ) (written : Writes contents old mid (flat_map f (range_with_len 0 i))) where
  pub range_more : Writes contents mid new (f i) → Writes contents old new (flat_map f (range_with_len 0 (i + 1)))
  range_more h = rw (flat_map-range_more f i) (Writes-append contents old mid new (flat_map f (range_with_len 0 i)) (f i) written h)

  pub range_stops : (n : ℕ) → i < n → Stops contents mid new (f i) → Stops contents old new (flat_map f (range_with_len 0 n))
  range_stops n inside h = rw (flat_map-range_split f i n inside) (inner_stops contents old mid new (flat_map f (range_with_len 0 i)) written (f i) (flat_map f (range_with_len (i + 1) (n - (i + 1)))) h)

-- ---- one text for each item of a list for each number below n

module _ {W F : Type 0} (contents : W → Option (List ℕ)) (old mid new : Watched W) (g : F → Text) (f : ℕ → List F) (i : ℕ) (written : Writes contents old mid (flat_map g (below i f))) where
  pub below_more : Writes contents mid new (flat_map g (f i)) → Writes contents old new (flat_map g (below (i + 1) f))
  below_more h =
      subst (Writes contents old new) (sym (ap (flat_map g) (flat_map-range_more f i) ∙ flat_map-append g (below i f) (f i)))
      (Writes-append contents old mid new (flat_map g (below i f)) (flat_map g (f i)) written h)

  pub below_stops : (n : ℕ) → i < n → Stops contents mid new (flat_map g (f i)) → Stops contents old new (flat_map g (below n f))
  below_stops n inside h =
      let rest = flat_map f (range_with_len (i + 1) (n - (i + 1))) in
      subst (Stops contents old new)
      (sym (ap (flat_map g) (flat_map-range_split f i n inside) ∙ flat_map-append g (below i f ++ f i) rest ∙ ap (λ l. l ++ flat_map g rest) (flat_map-append g (below i f) (f i))))
      (inner_stops contents old mid new (flat_map g (below i f)) written (flat_map g (f i)) (flat_map g rest) h)

-- ---- one text for each item of a list

module _ {W X : Type 0} (contents : W → Option (List ℕ)) (old mid new : Watched W) (f : X → Text) (xs : List X) (i : ℕ) (d : X) (inside : i < length xs) (written : Writes contents old mid (flat_map f (take i xs))) where
  pub items_more : Writes contents mid new (f (get_or xs i d)) → Writes contents old new (flat_map f (take (i + 1) xs))
  items_more h =
      subst (Writes contents old new)
      (sym (ap (flat_map f) (take_more xs i d inside) ∙ flat_map-append f (take i xs) (get_or xs i d ∷ []) ∙ ap (λ l. flat_map f (take i xs) ++ l) (append-nil (f (get_or xs i d)))))
      (Writes-append contents old mid new (flat_map f (take i xs)) (f (get_or xs i d)) written h)

  pub items_stop : Stops contents mid new (f (get_or xs i d)) → Stops contents old new (flat_map f xs)
  items_stop h =
      subst (Stops contents old new) (sym (flat_map-split f xs i d inside))
      (inner_stops contents old mid new (flat_map f (take i xs)) written (f (get_or xs i d)) (flat_map f (drop (i + 1) xs)) h)
