-- Texts that are written one after the other.
use Rattle.std.proofs.Common.{◌≡◌, ℕ, ◌+◌, ◌-◌, ◌^◌, ◌<◌, min, List, [], ◌++◌, Option, length, take, drop, get_or, sym, ap, ◌∙◌, arith, refl, length-append, zero-add, append-nil, append_assoc, take-append-drop}
use Rattle.std.proofs.Math.Seq.{take-append-add, take-append-le}
use Rattle.std.proofs.KnownBytes.{Appends-nil, Appends-trans}
use Rattle.std.proofs.lemmas.List.{drop_more}
use Rattle.std.proofs.lemmas.List.Concat.{flat_map-append}
use Rattle.std.specs.List.{flat_map, range_with_len}
use Rattle.roster_bundle.proofs.Ranges.{flat_map-range_more, range_with_len-add}
use Rattle.roster_text.specs.declared.fault.WriteFault.{WriteFault}
use Rattle.roster_text.specs.declared.fault.WriteFault.TheVariants.{WriteFailed}
use Rattle.roster_text.specs.Io.{Watched, Writes, StopsAt, StopsIn, Stops, Sends, BreaksIn, one_more}

-- the empty text is written by no write
pub Writes-nil : {W : Type 0} (contents : W → Option (List ℕ)) (w : Watched W) → Writes contents w w []
Writes-nil contents w = record { taken = Appends-nil (contents w.inner); flushes = refl; failures = refl }

-- wrote xs, and then ys
pub Writes-append : {W : Type 0} (contents : W → Option (List ℕ)) (old mid new : Watched W) (xs ys : List ℕ) → Writes contents old mid xs → Writes contents mid new ys
    → Writes contents old new (xs ++ ys)
Writes-append contents old mid new xs ys p q = record {
  taken = Appends-trans _ _ _ xs ys p.taken q.taken;
  flushes = q.flushes ∙ p.flushes;
  failures = q.failures ∙ p.failures;
}

-- stopped in xs, and so in each text that begins with xs
pub StopsAt-append : {W : Type 0} (contents : W → Option (List ℕ)) (old new : Watched W) (xs ys : List ℕ) (sent : ℕ) → StopsAt contents old new xs sent
    → StopsAt contents old new (xs ++ ys) sent
StopsAt-append contents old new xs ys sent p =
    let left : sent < length xs = p.left in
    record {
      taken = rw (take-append-le sent xs ys (omega arith)) p.taken;
      left = simp length-append (omega arith);
      flushes = p.flushes;
      failures = p.failures;
    }

-- wrote xs, and stopped in ys
pub StopsAt-after : {W : Type 0} (contents : W → Option (List ℕ)) (old mid new : Watched W) (xs ys : List ℕ) (sent : ℕ) → Writes contents old mid xs → StopsAt contents mid new ys sent
    → StopsAt contents old new (xs ++ ys) (length xs + sent)
StopsAt-after contents old mid new xs ys sent p q =
    let left : sent < length ys = q.left in
    record {
      taken = rw (take-append-add xs ys sent) (Appends-trans _ _ _ xs (take sent ys) p.taken q.taken);
      left = simp length-append (omega arith);
      flushes = q.flushes ∙ p.flushes;
      failures = q.failures ∙ ap one_more p.failures;
    }

-- ---- without counts

pub Stops-from_in : {W : Type 0} (contents : W → Option (List ℕ)) (old new : Watched W) (text : List ℕ) (fault : WriteFault) → StopsIn contents old new text fault → Stops contents old new text
Stops-from_in contents old new text fault p = record { sent = p.sent; stops = p.stops }

pub Stops-append : {W : Type 0} (contents : W → Option (List ℕ)) (old new : Watched W) (xs ys : List ℕ) → Stops contents old new xs → Stops contents old new (xs ++ ys)
Stops-append contents old new xs ys p = record { sent = p.sent; stops = StopsAt-append contents old new xs ys p.sent p.stops }

pub Stops-after : {W : Type 0} (contents : W → Option (List ℕ)) (old mid new : Watched W) (xs ys : List ℕ) → Writes contents old mid xs → Stops contents mid new ys
    → Stops contents old new (xs ++ ys)
Stops-after contents old mid new xs ys p q = record { sent = length xs + q.sent; stops = StopsAt-after contents old mid new xs ys q.sent p q.stops }

-- ---- the same with counts

-- nothing is sent
pub Sends-nil : {W : Type 0} (contents : W → Option (List ℕ)) (w : Watched W) (before : ℕ) → before < 2 ^ 64 → Sends contents w w before before []
Sends-nil contents w before fits = record { writes = Writes-nil contents w; counted = omega (arith, fits) }

pub Sends-append : {W : Type 0} (contents : W → Option (List ℕ)) (old mid new : Watched W) (before between after : ℕ) (xs ys : List ℕ)
    → Sends contents old mid before between xs → Sends contents mid new between after ys → Sends contents old new before after (xs ++ ys)
Sends-append contents old mid new before between after xs ys p q =
    let first : between ≡ min (before + length xs) (2 ^ 64 - 1) = p.counted in
    let second : after ≡ min (between + length ys) (2 ^ 64 - 1) = q.counted in
    record {
      writes = Writes-append contents old mid new xs ys p.writes q.writes;
      counted = simp length-append (omega arith);
    }

pub BreaksIn-append : {W : Type 0} (contents : W → Option (List ℕ)) (old new : Watched W) (before : ℕ) (xs ys : List ℕ) (fault : WriteFault)
    → BreaksIn contents old new before xs fault → BreaksIn contents old new before (xs ++ ys) fault
BreaksIn-append contents old new before xs ys fault p = record {
  sent = p.sent;
  stops = StopsAt-append contents old new xs ys p.sent p.stops;
  counted = p.counted;
}

pub BreaksIn-after : {W : Type 0} (contents : W → Option (List ℕ)) (old mid new : Watched W) (before between : ℕ) (xs ys : List ℕ) (fault : WriteFault)
    → Sends contents old mid before between xs → BreaksIn contents mid new between ys fault → BreaksIn contents old new before (xs ++ ys) fault
BreaksIn-after contents old mid new before between xs ys fault p q =
    let first : between ≡ min (before + length xs) (2 ^ 64 - 1) = p.counted in
    let count : min (between + q.sent) (2 ^ 64 - 1) ≡ min (before + (length xs + q.sent)) (2 ^ 64 - 1) = omega arith in
    record {
      sent = length xs + q.sent;
      stops = StopsAt-after contents old mid new xs ys q.sent p.writes q.stops;
      counted = q.counted ∙ ap WriteFailed count;
    }

-- a text of its own, counted from 0
pub StopsIn-from_breaks_in : {W : Type 0} (contents : W → Option (List ℕ)) (old new : Watched W) (text : List ℕ) (fault : WriteFault) → BreaksIn contents old new 0 text fault
    → StopsIn contents old new text fault
StopsIn-from_breaks_in contents old new text fault p = record {
  sent = p.sent;
  stops = p.stops;
  counted = p.counted ∙ ap (λ n. WriteFailed (min n (2 ^ 64 - 1))) (zero-add p.sent);
}

-- ---- texts that are made piece by piece

-- the pieces before m, piece m, and those after it
pub flat_map-range_split : {A : Type 0} (f : ℕ → List A) (m n : ℕ) → m < n → flat_map f (range_with_len 0 n) ≡ (flat_map f (range_with_len 0 m) ++ f m) ++ flat_map f (range_with_len (m + 1) (n - (m + 1)))
flat_map-range_split f m n h =
    let count : n ≡ (m + 1) + (n - (m + 1)) = omega arith in
    let split : range_with_len 0 n ≡ range_with_len 0 (m + 1) ++ range_with_len (0 + (m + 1)) (n - (m + 1)) = ap (range_with_len 0) count ∙ range_with_len-add 0 (m + 1) (n - (m + 1)) in
    let next : range_with_len (0 + (m + 1)) (n - (m + 1)) ≡ range_with_len (m + 1) (n - (m + 1)) = ap (λ a. range_with_len a (n - (m + 1))) (zero-add (m + 1)) in
    ap (flat_map f) (split ∙ ap (λ l. range_with_len 0 (m + 1) ++ l) next) ∙ flat_map-append f _ _ ∙ ap (λ l. l ++ flat_map f (range_with_len (m + 1) (n - (m + 1)))) (flat_map-range_more f m)

-- the pieces of a list before i, piece i, and those after it
pub flat_map-split : {X A : Type 0} (f : X → List A) (xs : List X) (i : ℕ) (d : X) → i < length xs
    → flat_map f xs ≡ (flat_map f (take i xs) ++ f (get_or xs i d)) ++ flat_map f (drop (i + 1) xs)
flat_map-split f xs i d h =
    ap (flat_map f) (sym (take-append-drop i xs)) ∙ flat_map-append f (take i xs) (drop i xs) ∙ ap (λ l. flat_map f (take i xs) ++ flat_map f l) (drop_more xs i d h)
    ∙ sym (append_assoc (flat_map f (take i xs)) (f (get_or xs i d)) (flat_map f (drop (i + 1) xs)))

-- a text of pieces: those before i were sent, and a write failed in piece i
pub BreaksIn-flat_map : {W X : Type 0} (contents : W → Option (List ℕ)) (old mid new : Watched W) (before between : ℕ) (f : X → List ℕ) (xs : List X) (i : ℕ) (d : X) (fault : WriteFault)
    → i < length xs → Sends contents old mid before between (flat_map f (take i xs)) → BreaksIn contents mid new between (f (get_or xs i d)) fault
    → BreaksIn contents old new before (flat_map f xs) fault
BreaksIn-flat_map contents old mid new before between f xs i d fault h p q =
    rw (flat_map-split f xs i d h) (BreaksIn-append contents old new before _ _ fault (BreaksIn-after contents old mid new before between _ _ fault p q))

-- the same after a first text, with the pieces numbered from 0
pub BreaksIn-range : {W : Type 0} (contents : W → Option (List ℕ)) (old mid new : Watched W) (before between : ℕ) (front : List ℕ) (f : ℕ → List ℕ) (m n : ℕ) (fault : WriteFault)
    → m < n → Sends contents old mid before between (front ++ flat_map f (range_with_len 0 m)) → BreaksIn contents mid new between (f m) fault
    → BreaksIn contents old new before (front ++ flat_map f (range_with_len 0 n)) fault
BreaksIn-range contents old mid new before between front f m n fault h p q =
    let so_far = flat_map f (range_with_len 0 m) in
    let rest = flat_map f (range_with_len (m + 1) (n - (m + 1))) in
    let split : front ++ flat_map f (range_with_len 0 n) ≡ ((front ++ so_far) ++ f m) ++ rest =
    ap (λ l. front ++ l) (flat_map-range_split f m n h) ∙ sym (append_assoc front (so_far ++ f m) rest) ∙ ap (λ l. l ++ rest) (sym (append_assoc front so_far (f m))) in
    rw split (BreaksIn-append contents old new before _ rest fault (BreaksIn-after contents old mid new before between _ _ fault p q))

-- one more piece
pub Sends-range : {W : Type 0} (contents : W → Option (List ℕ)) (old mid new : Watched W) (before between after : ℕ) (front : List ℕ) (f : ℕ → List ℕ) (m : ℕ)
    → Sends contents old mid before between (front ++ flat_map f (range_with_len 0 m)) → Sends contents mid new between after (f m)
    → Sends contents old new before after (front ++ flat_map f (range_with_len 0 (m + 1)))
Sends-range contents old mid new before between after front f m p q =
    rw (flat_map-range_more f m, ← append_assoc front (flat_map f (range_with_len 0 m)) (f m)) (Sends-append contents old mid new before between after _ _ p q)

-- one more piece, which is empty
pub Sends-range-nil : {W : Type 0} (contents : W → Option (List ℕ)) (old new : Watched W) (before after : ℕ) (front : List ℕ) (f : ℕ → List ℕ) (m : ℕ)
    → Sends contents old new before after (front ++ flat_map f (range_with_len 0 m)) → f m ≡ [] → Sends contents old new before after (front ++ flat_map f (range_with_len 0 (m + 1)))
Sends-range-nil contents old new before after front f m p e = rw (flat_map-range_more f m, e, append-nil) p
