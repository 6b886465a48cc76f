-- How one more day changes the violations of runs and the open run: only the last two days count differently
-- than before.
use Rattle.std.proofs.Common.{◌≡◌, refl, ap, ◌∙◌, arith, ℕ, zero, suc, ◌+◌, ◌-◌, ◌<◌, ◌≤◌, Bool, true, false, not, ◌&&◌, nat_lt, nat_le, ◌==◌, if◌then◌else◌}
use Rattle.std.proofs.lemmas.Bool.{lt-ltb, le-ltb, le-leb, lt-leb, eq-eqb, ne_eqb}
use Rattle.roster_instance.specs.declared.rules.Limits.{Limits}
use Rattle.roster_instance.specs.Counting.{sum_below, one_if}
use Rattle.roster_instance.specs.RunLaw.{day_violations}
use Rattle.roster_rules.specs.Runs.{place, over, under, border_under, run_violations, open_run}
use Rattle.roster_rules.proofs.RunSums.{sum_same, sum_zero, start, start_within, ends, by_last}

-- ---- the open run

place_grows : (b i m : ℕ) → i ≤ m → place b i (suc m) ≡ place b i m + 1
place_grows b i m h = omega arith

place_at_first : (b m : ℕ) → place b (suc m) (suc m) ≡ 1
place_at_first b m = rw (ne_eqb (suc m) 0 (λ e. omega arith)) (omega arith)

place_next : (b s m : ℕ) (q : Bool) → s ≤ m → place b (if q then s else suc m) (suc m) ≡ (if q then place b s m else 0) + 1
place_next b s m true h = place_grows b s m h
place_next b s m false h = place_at_first b m ∙ omega arith

not_last : (b i j m : ℕ) (e : Bool) → j < m → (if e then (if suc j == suc m then place b i j else 0) else 0) ≡ 0
not_last b i j m true h = rw (ne_eqb (suc j) (suc m) (λ e. omega arith))
not_last b i j m false h = refl

is_last : (x m : ℕ) (q r : Bool) → (if q && not (nat_lt (suc m) (suc m) && r) then (if suc m == suc m then x else 0) else 0) ≡ (if q then x else 0)
is_last x m true r = rw (le-ltb (suc m) (suc m) (omega arith), eq-eqb (suc m) (suc m) refl)
is_last x m false r = refl

-- the run that is open after day m
pub open_after : (b : ℕ) (p : ℕ → Bool) (m : ℕ) → open_run b p (suc m) ≡ (if p m then place b (start p m) m else 0)
unfolding open_run
open_after b p m =
    let here : ℕ → ℕ → ℕ = λ i j. if suc j == suc m then place b i j else 0 in
    let before : sum_below m (λ j. if ends p (suc m) j then here (start p j) j else 0) ≡ 0 =
    sum_zero m (λ j. if ends p (suc m) j then here (start p j) j else 0) (λ j h. not_last b (start p j) j m (ends p (suc m) j) h) in
    let last : (if ends p (suc m) m then here (start p m) m else 0) ≡ (if p m then place b (start p m) m else 0) = is_last (place b (start p m) m) m (p m) (p (suc m)) in
    rw (ne_eqb (suc m) 0 (λ e. omega arith)) (by_last p (suc m) here ∙ omega (arith, before, last))

pub border : (b : ℕ) (p : ℕ → Bool) → open_run b p 0 ≡ b
unfolding open_run
border b p = refl

grown_by : (q : Bool) (x y : ℕ) → x ≡ y → (if q then x else 0) ≡ (if q then y else 0)
grown_by q x y e = rw e

pub grown : (b : ℕ) (p : ℕ → Bool) (d : ℕ) → open_run b p (suc d) ≡ (if p d then open_run b p d + 1 else 0)
grown b p zero = open_after b p 0 ∙ grown_by (p 0) (place b 0 0) (open_run b p 0 + 1) (omega (arith, border b p))
grown b p (suc m) =
    open_after b p (suc m)
    ∙ grown_by (p (suc m)) (place b (start p (suc m)) (suc m)) (open_run b p (suc m) + 1)
    (place_next b (start p m) m (p m) (start_within p m) ∙ omega (arith, open_after b p m))

-- ---- the violations

-- what the run that ends on day j owes
abbrev owed : Limits → ℕ → (ℕ → Bool) → ℕ → ℕ → ℕ
owed l b p d j = if ends p d j then over l b (start p j) j + under l b d (start p j) j else 0

violations_by_last : (l : Limits) (b : ℕ) (p : ℕ → Bool) (d : ℕ) → run_violations l b p d ≡ sum_below d (owed l b p d) + border_under l b p d
unfolding run_violations
violations_by_last l b p d = rw (by_last p d (λ i j. over l b i j + under l b d i j))

no_day : (a c : Bool) (x : ℕ) → 0 + (if a && false && c then x else 0) ≡ 0
no_day true c x = refl
no_day false c x = refl

pub no_violations : (l : Limits) (b : ℕ) (p : ℕ → Bool) → run_violations l b p 0 ≡ 0
unfolding run_violations
no_violations l b p = no_day (nat_lt 0 b) (not (p 0)) (l.least - b)

-- a day before the last counts as it did
owed_before : (l : Limits) (b : ℕ) (p : ℕ → Bool) (m j : ℕ) → j < m → owed l b p (suc (suc m)) j ≡ owed l b p (suc m) j
owed_before l b p m j h =
    rw (lt-ltb (suc j) (suc (suc m)) (omega arith), lt-ltb (suc j) (suc m) (omega arith), ne_eqb (suc j) (suc (suc m)) (λ e. omega arith), ne_eqb (suc j) (suc m) (λ e. omega arith))

-- a run that ends on the last day doesn't owe its missing days
at_last : (m x y : ℕ) (q r : Bool) → (if q && not (nat_lt (suc m) (suc m) && r) then x + (if suc m == suc m then 0 else y) else 0) ≡ (if q then x else 0)
at_last m x y true r = rw (le-ltb (suc m) (suc m) (omega arith), eq-eqb (suc m) (suc m) refl) (omega arith)
at_last m x y false r = refl

-- with one more day it does, if it ended there
later : (m x y : ℕ) (q r : Bool) → (if q && not (nat_lt (suc m) (suc (suc m)) && r) then x + (if suc m == suc (suc m) then 0 else y) else 0) ≡ (if q && not r then x + y else 0)
later m x y q r = rw (lt-ltb (suc m) (suc (suc m)) (omega arith), ne_eqb (suc m) (suc (suc m)) (λ e. omega arith))

-- the extra days of a run that goes on, and of one that begins
over_grows : (l : Limits) (b s m : ℕ) → s ≤ m → over l b s (suc m) ≡ over l b s m + one_if (nat_lt l.greatest (place b s m + 1))
over_grows l b s m h =
    let at : place b s (suc m) ≡ place b s m + 1 = place_grows b s m h in
    let e : one_if (nat_le s (suc m) && nat_lt l.greatest (place b s (suc m))) ≡ one_if (nat_lt l.greatest (place b s m + 1)) =
    rw (le-leb s (suc m) (omega arith)) (ap (λ x. one_if (nat_lt l.greatest x)) at) in
    omega (arith, e)

over_at_first : (l : Limits) (b m : ℕ) → over l b (suc m) (suc m) ≡ one_if (nat_lt l.greatest (0 + 1))
over_at_first l b m =
    let none : sum_below (suc m) (λ k. one_if (nat_le (suc m) k && nat_lt l.greatest (place b (suc m) k))) ≡ 0 =
    sum_zero (suc m) (λ k. one_if (nat_le (suc m) k && nat_lt l.greatest (place b (suc m) k))) (λ k h. rw (lt-leb (suc m) k h)) in
    let e : one_if (nat_le (suc m) (suc m) && nat_lt l.greatest (place b (suc m) (suc m))) ≡ one_if (nat_lt l.greatest 1) =
    rw (le-leb (suc m) (suc m) (omega arith)) (ap (λ x. one_if (nat_lt l.greatest x)) (place_at_first b m)) in
    omega (arith, none, e)

over_next : (l : Limits) (b s m : ℕ) (q : Bool) → s ≤ m → over l b (if q then s else suc m) (suc m) ≡ (if q then over l b s m else 0) + one_if (nat_lt l.greatest ((if q then place b s m else 0) + 1))
over_next l b s m true h = over_grows l b s m h
over_next l b s m false h = over_at_first l b m ∙ omega arith

-- the last two days together; x is the number of extra days of the run up to the day before, and n its length
last_two : (l : Limits) (x n : ℕ) (q r : Bool) → 0 < n → (if q && not r then x + (l.least - n) else 0) + (if r then (if q then x else 0) + one_if (nat_lt l.greatest ((if q then n else 0) + 1)) else 0) ≡ (if q then x else 0) + day_violations l (if q then n else 0) r
last_two l x n true true h = omega arith
last_two l x n true false h = rw (lt-ltb 0 n h) (omega arith)
last_two l x n false true h = omega arith
last_two l x n false false h = refl

sum_grows : (l : Limits) (b : ℕ) (p : ℕ → Bool) (m : ℕ) → sum_below (suc (suc m)) (owed l b p (suc (suc m))) ≡ sum_below (suc m) (owed l b p (suc m)) + day_violations l (open_run b p (suc m)) (p (suc m))
sum_grows l b p m =
    let s : ℕ = start p m in
    let n : ℕ = place b s m in
    let x : ℕ = over l b s m in
    let before : sum_below m (owed l b p (suc (suc m))) ≡ sum_below m (owed l b p (suc m)) = sum_same m (owed l b p (suc (suc m))) (owed l b p (suc m)) (λ j h. owed_before l b p m j h) in
    let was : owed l b p (suc m) m ≡ (if p m then x else 0) = at_last m x (l.least - n) (p m) (p (suc m)) in
    let is : owed l b p (suc (suc m)) m ≡ (if p m && not (p (suc m)) then x + (l.least - n) else 0) = later m x (l.least - n) (p m) (p (suc m)) in
    let new : owed l b p (suc (suc m)) (suc m) ≡ (if p (suc m) then (if p m then x else 0) + one_if (nat_lt l.greatest ((if p m then n else 0) + 1)) else 0) =
    at_last (suc m) (over l b (start p (suc m)) (suc m)) (l.least - place b (start p (suc m)) (suc m)) (p (suc m)) (p (suc (suc m)))
    ∙ ap (λ y. if p (suc m) then y else 0) (over_next l b s m (p m) (start_within p m)) in
    let two = last_two l x n (p m) (p (suc m)) (omega arith) in
    rw (open_after b p m) (omega (arith, before, was, is, new, two))

-- the first day: the run of the border goes on, or owes its missing days
over_on_day_0 : (l : Limits) (b : ℕ) → over l b 0 0 ≡ one_if (nat_lt l.greatest (b + 1))
over_on_day_0 l b =
    let at : place b 0 0 ≡ b + 1 = omega arith in
    ap (λ x. 0 + one_if (nat_lt l.greatest x)) at ∙ omega arith

border_by : (t r : Bool) (x : ℕ) → (if t && true && not r then x else 0) ≡ (if r then 0 else (if t then x else 0))
border_by true true x = refl
border_by true false x = refl
border_by false true x = refl
border_by false false x = refl

first_day : (l : Limits) (b x : ℕ) (r : Bool) → x ≡ one_if (nat_lt l.greatest (b + 1)) → (if r then x else 0) + (if r then 0 else (if nat_lt 0 b then l.least - b else 0)) ≡ day_violations l b r
first_day l b x true e = omega arith
first_day l b x false e = omega arith

violations_of_day_0 : (l : Limits) (b : ℕ) (p : ℕ → Bool) → run_violations l b p 1 ≡ day_violations l b (p 0)
violations_of_day_0 l b p =
    let was : owed l b p 1 0 ≡ (if p 0 then over l b 0 0 else 0) = at_last 0 (over l b 0 0) (l.least - place b 0 0) (p 0) (p 1) in
    let here : border_under l b p 1 ≡ (if p 0 then 0 else (if nat_lt 0 b then l.least - b else 0)) = border_by (nat_lt 0 b) (p 0) (l.least - b) in
    let both : (if p 0 then over l b 0 0 else 0) + (if p 0 then 0 else (if nat_lt 0 b then l.least - b else 0)) ≡ day_violations l b (p 0) = first_day l b (over l b 0 0) (p 0) (over_on_day_0 l b) in
    omega (arith, violations_by_last l b p 1, was, here, both)

pub violations : (l : Limits) (b : ℕ) (p : ℕ → Bool) (d : ℕ) → run_violations l b p (suc d) ≡ run_violations l b p d + day_violations l (open_run b p d) (p d)
violations l b p zero = rw (border b p) (omega (arith, violations_of_day_0 l b p, no_violations l b p))
violations l b p (suc m) =
    let same : border_under l b p (suc (suc m)) ≡ border_under l b p (suc m) = rw (lt-ltb 0 (suc m) (omega arith), lt-ltb 0 (suc (suc m)) (omega arith)) in
    omega (arith, violations_by_last l b p (suc (suc m)), violations_by_last l b p (suc m), sum_grows l b p m, same)
