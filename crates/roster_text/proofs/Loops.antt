-- Reading items one after the other, as a loop does.
use Rattle.std.proofs.Common.{◌≡◌, ℕ, suc, ◌-◌, ◌+◌, ◌≤◌, ◌<◌, true, false, List, [], ◌∷◌, ◌++◌, length, drop, Ok, Err, refl, sym, ap, ◌∙◌, append_assoc, arith}
use Rattle.std.proofs.lemmas.List.{append-nil, length-map}
use Rattle.roster_text.specs.declared.fault.Keyword.{Keyword}
use Rattle.roster_text.specs.declared.fault.What.TheVariants as what
use Rattle.roster_text.specs.declared.parser.Refusal.TheVariants.{Due}
use Rattle.roster_text.specs.declared.parser.Stop.{Stop}
use Rattle.roster_text.specs.declared.parser.Stop.TheVariants as stop
use Rattle.roster_bundle.specs.declared.token.Token.{Token}
use Rattle.roster_bundle.specs.Token.{Seen, seen, all_seen}
use Rattle.roster_text.specs.Reading.{Read, Reads, ◌>>=◌, times_at, until_at, until_with, begins_section}

-- the items read before, and those still to be read
abbrev pub with_front : {A : Type 0} → List A → Read (List A) → Read (List A)
with_front front read = read >>= λ x. Ok (front ++ x.0, x.1)

regroup : {A : Type 0} (front : List A) (x : A) (read : Read (List A)) → with_front front (read >>= λ y. Ok (x ∷ y.0, y.1)) ≡ with_front (front ++ x ∷ []) read
regroup front x (Ok y) = ap (λ (xs : _). Ok (xs, y.1)) (simp append_assoc)
regroup front x (Err f) = refl

-- ---- a given number of items

pub times_goes_on : {A : Type 0} (read : List Seen → Read A) (front : List A) (count i : ℕ) (ts : List Seen) (x : A) (rest : List Seen) (total : Read (List A)) → i < count → read ts ≡ Ok (x, rest)
    → with_front front (times_at read (count - i) ts) ≡ total → with_front (front ++ x ∷ []) (times_at read (count - (i + 1)) rest) ≡ total
unfolding times_at
times_goes_on read front count i ts x rest total lt h so_far =
    let k : count - i ≡ suc (count - (i + 1)) = omega arith in
    let one : with_front front (times_at read (count - i) ts) ≡ with_front (front ++ x ∷ []) (times_at read (count - (i + 1)) rest) = rw (k, h) (regroup front x (times_at read (count - (i + 1)) rest)) in
    sym one ∙ so_far

pub times_stops : {A : Type 0} (read : List Seen → Read A) (front : List A) (count i : ℕ) (ts left : List Seen) (s : Stop) (total : Read (List A)) → i < count → Reads {A = A} (Err s) left (read ts)
    → with_front front (times_at read (count - i) ts) ≡ total → Reads {A = List A} (Err s) left total
unfolding times_at
times_stops read front count i ts left stop.Memory total lt h so_far = tt
times_stops read front count i ts left (stop.Refused r) total lt h so_far =
    let k : count - i ≡ suc (count - (i + 1)) = omega arith in
    let one : with_front front (times_at read (count - i) ts) ≡ Err (r, left) = rw (k, h) refl in
    sym so_far ∙ one

pub times_done : {A : Type 0} (read : List Seen → Read A) (front : List A) (count i : ℕ) (ts : List Seen) (total : Read (List A)) → count ≤ i → with_front front (times_at read (count - i) ts) ≡ total → total ≡ Ok (front, ts)
unfolding times_at
times_done read front count i ts total le so_far =
    let k : count - i ≡ 0 = omega arith in
    let one : with_front front (times_at read (count - i) ts) ≡ Ok (front, ts) = rw k (ap (λ (xs : _). Ok (xs, ts)) (append-nil front)) in
    sym so_far ∙ one

-- ---- lines up to a section

same_with_nil : {A : Type 0} (read : Read (List A)) → with_front [] read ≡ read
same_with_nil (Ok x) = refl
same_with_nil (Err f) = refl

-- the number of tries: one more than there are tokens
pub tries : (source : List ℕ) (tokens : List Token) (ts : List Seen) → all_seen source tokens ≡ ts → suc (length ts) ≡ length tokens + 1
tries source tokens ts e = omega (arith, length-map tokens (seen source), ap length e)

pub until_init : {A : Type 0} (read : List Seen → Read A) (k : Keyword) (ts : List Seen) → with_front [] (until_with read k (suc (length ts) - 0) ts) ≡ until_at read k ts
until_init read k ts = let n : suc (length ts) - 0 ≡ suc (length ts) = omega arith in rw n (same_with_nil (until_at read k ts))

line : {A : Type 0} (read : List Seen → Read A) (k : Keyword) (n : ℕ) (ts : List Seen) → begins_section k ts ≡ false → until_with read k (suc n) ts ≡ (read ts >>= λ x. until_with read k n x.1 >>= λ xs. Ok (x.0 ∷ xs.0, xs.1))
unfolding until_with
line read k n ts e = rw e refl

pub until_goes_on : {A : Type 0} (read : List Seen → Read A) (k : Keyword) (front : List A) (tries i : ℕ) (ts : List Seen) (x : A) (rest : List Seen) (total : Read (List A)) → i < tries → begins_section k ts ≡ false → read ts ≡ Ok (x, rest)
    → with_front front (until_with read k (tries - i) ts) ≡ total → with_front (front ++ x ∷ []) (until_with read k (tries - (i + 1)) rest) ≡ total
until_goes_on read k front tries i ts x rest total lt no_end h so_far =
    let n : tries - i ≡ suc (tries - (i + 1)) = omega arith in
    let one : with_front front (until_with read k (tries - i) ts) ≡ with_front (front ++ x ∷ []) (until_with read k (tries - (i + 1)) rest) =
    rw (n, line read k (tries - (i + 1)) ts no_end, h) (regroup front x (until_with read k (tries - (i + 1)) rest)) in
    sym one ∙ so_far

pub until_stops : {A : Type 0} (read : List Seen → Read A) (k : Keyword) (front : List A) (tries i : ℕ) (ts left : List Seen) (e : Stop) (total : Read (List A)) → i < tries → begins_section k ts ≡ false → Reads {A = A} (Err e) left (read ts)
    → with_front front (until_with read k (tries - i) ts) ≡ total → Reads {A = List A} (Err e) left total
until_stops read k front tries i ts left stop.Memory total lt no_end h so_far = tt
until_stops read k front tries i ts left (stop.Refused r) total lt no_end h so_far =
    let n : tries - i ≡ suc (tries - (i + 1)) = omega arith in
    let one : with_front front (until_with read k (tries - i) ts) ≡ Err (r, left) = rw (n, line read k (tries - (i + 1)) ts no_end, h) refl in
    sym so_far ∙ one

pub until_done : {A : Type 0} (read : List Seen → Read A) (k : Keyword) (front : List A) (tries i : ℕ) (ts : List Seen) (total : Read (List A)) → i < tries → begins_section k ts ≡ true
    → with_front front (until_with read k (tries - i) ts) ≡ total → total ≡ Ok (front, drop 2 ts)
unfolding until_with
until_done read k front tries i ts total lt end so_far =
    let n : tries - i ≡ suc (tries - (i + 1)) = omega arith in
    let one : with_front front (until_with read k (tries - i) ts) ≡ Ok (front, drop 2 ts) = rw (n, end) (ap (λ (xs : _). Ok (xs, drop 2 ts)) (append-nil front)) in
    sym so_far ∙ one

-- when no try is left, another line would be due
pub until_ends : {A : Type 0} (read : List Seen → Read A) (k : Keyword) (front : List A) (tries i : ℕ) (ts : List Seen) (total : Read (List A)) → tries ≤ i → with_front front (until_with read k (tries - i) ts) ≡ total → total ≡ Err (Due what.Name, ts)
unfolding until_with
until_ends read k front tries i ts total le so_far =
    let n : tries - i ≡ 0 = omega arith in
    let one : with_front front (until_with read k (tries - i) ts) ≡ Err (Due what.Name, ts) = rw n refl in
    sym so_far ∙ one

pub two_skips : (ts : List Seen) → drop 1 (drop 1 ts) ≡ drop 2 ts
two_skips [] = refl
two_skips (t ∷ []) = refl
two_skips (t ∷ u ∷ ts) = refl
