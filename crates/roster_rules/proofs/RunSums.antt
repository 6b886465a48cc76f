-- A sum over runs is a sum over their last days, since at most one run contains a day.
use Rattle.std.proofs.Common.{◌≡◌, refl, ap, ◌∙◌, arith, ℕ, zero, suc, ◌+◌, ◌-◌, ◌<◌, ◌≤◌, Bool, true, false, not, ◌&&◌, ◌||◌, nat_lt, if◌then◌else◌}
use Rattle.std.proofs.lemmas.Bool.{lt-ltb, le-ltb}
use Rattle.roster_instance.specs.Counting.{sum_below, all_below}
use Rattle.roster_rules.specs.Runs.{all_between, is_run, sum_over_runs}

-- ---- sums

pub sum_same : (n : ℕ) (f g : ℕ → ℕ) → ((k : ℕ) → k < n → f k ≡ g k) → sum_below n f ≡ sum_below n g
sum_same zero f g h = refl
sum_same (suc n) f g h =
    let rest : sum_below n f ≡ sum_below n g = sum_same n f g (λ k l. h k (omega arith)) in
    let last : f n ≡ g n = h n (omega arith) in
    cc

pub sum_zero : (n : ℕ) (f : ℕ → ℕ) → ((k : ℕ) → k < n → f k ≡ 0) → sum_below n f ≡ 0
sum_zero zero f h = refl
sum_zero (suc n) f h = omega (arith, sum_zero n f (λ k l. h k (omega arith)), h n (omega arith))

sum_where : (b : Bool) (n : ℕ) (f : ℕ → ℕ) → sum_below n (λ k. if b then f k else 0) ≡ (if b then sum_below n f else 0)
sum_where true n f = refl
sum_where false n f = sum_zero n (λ k. 0) (λ k l. refl)

-- ---- the run of a day

-- the day on which the run of day j begins, if day j is of the kind
abbrev pub start : (ℕ → Bool) → ℕ → ℕ
start p zero = 0
start p (suc j) = if p j then start p j else suc j

start_by : (b : Bool) (s j : ℕ) → s ≤ j → (if b then s else suc j) ≤ suc j
start_by true s j h = omega arith
start_by false s j h = omega arith

pub start_within : (p : ℕ → Bool) (j : ℕ) → start p j ≤ j
start_within p zero = omega arith
start_within p (suc j) = start_by (p j) (start p j) j (start_within p j)

-- all days from i to j are of the kind, and the day before i isn't
abbrev begins : (ℕ → Bool) → ℕ → ℕ → Bool
begins p i j = all_between p i j && not (nat_lt 0 i && p (i - 1))

none_between : (n i : ℕ) (p : ℕ → Bool) → n ≤ i → all_below n (λ k. nat_lt k i || p k) ≡ true
none_between zero i p h = refl
none_between (suc n) i p h = rw (none_between n i p (omega arith), lt-ltb n i (omega arith))

further_by : (a c q t : Bool) (x : ℕ) → t ≡ false → (if (a && (t || q)) && c then x else 0) ≡ (if q then (if a && c then x else 0) else 0)
further_by a c q true x e = absurd cc
further_by true c true false x e = refl
further_by true c false false x e = refl
further_by false c true false x e = refl
further_by false c false false x e = refl

-- a run up to day j goes on if the next day is of the kind
further : (p : ℕ → Bool) (f : ℕ → ℕ) (i j : ℕ) → i ≤ j → (if begins p i (suc j) then f i else 0) ≡ (if p (suc j) then (if begins p i j then f i else 0) else 0)
further p f i j h = further_by (all_between p i j) (not (nat_lt 0 i && p (i - 1))) (p (suc j)) (nat_lt (suc j) i) (f i) (le-ltb (suc j) i (omega arith))

here_by : (a t u q r : Bool) → a ≡ true → t ≡ false → u ≡ true → ((a && (t || q)) && not (u && r)) ≡ (q && not r)
here_by a t u q r e f g = rw (e, f, g)

-- and a run begins on the next day if day j isn't of the kind
here : (p : ℕ → Bool) (j : ℕ) → begins p (suc j) (suc j) ≡ (p (suc j) && not (p j))
here p j =
    let back : suc j - 1 ≡ j = omega arith in
    here_by _ _ _ _ _ (none_between (suc j) (suc j) p (omega arith)) (le-ltb (suc j) (suc j) (omega arith)) (lt-ltb 0 (suc j) (omega arith)) ∙ ap (λ k. p (suc j) && not (p k)) back

joined : (q r : Bool) (f : ℕ → ℕ) (s t : ℕ) → (if q then (if r then f s else 0) else 0) + (if q && not r then f t else 0) ≡ (if q then f (if r then s else t) else 0)
joined true true f s t = omega arith
joined true false f s t = omega arith
joined false r f s t = refl

first_by : (b : Bool) (x : ℕ) → 0 + (if b && true then x else 0) ≡ (if b then x else 0)
first_by true x = omega arith
first_by false x = refl

-- of the days from which all days up to j are a run, at most one counts
pub one_start : (p : ℕ → Bool) (f : ℕ → ℕ) (j : ℕ) → sum_below (suc j) (λ i. if begins p i j then f i else 0) ≡ (if p j then f (start p j) else 0)
one_start p f zero = first_by (p 0) (f 0)
one_start p f (suc j) =
    let before : sum_below (suc j) (λ i. if begins p i (suc j) then f i else 0) ≡ (if p (suc j) then (if p j then f (start p j) else 0) else 0) =
    sum_same (suc j) (λ i. if begins p i (suc j) then f i else 0) (λ i. if p (suc j) then (if begins p i j then f i else 0) else 0) (λ i h. further p f i j (omega arith))
    ∙ (sum_where (p (suc j)) (suc j) (λ i. if begins p i j then f i else 0) ∙ ap (λ x. if p (suc j) then x else 0) (one_start p f j)) in
    let last : (if begins p (suc j) (suc j) then f (suc j) else 0) ≡ (if p (suc j) && not (p j) then f (suc j) else 0) = ap (λ b. if b then f (suc j) else 0) (here p j) in
    let both : (if p (suc j) then (if p j then f (start p j) else 0) else 0) + (if p (suc j) && not (p j) then f (suc j) else 0) ≡ (if p (suc j) then f (start p (suc j)) else 0) = joined (p (suc j)) (p j) f (start p j) (suc j) in
    ap (λ x. x + (if begins p (suc j) (suc j) then f (suc j) else 0)) before
    ∙ (ap (λ y. (if p (suc j) then (if p j then f (start p j) else 0) else 0) + y) last ∙ both)

-- ---- the runs by their last days

-- day j is the last day of a run
abbrev pub ends : (ℕ → Bool) → ℕ → ℕ → Bool
ends p d j = p j && not (nat_lt (suc j) d && p (suc j))

swapped : (a c e : Bool) (x : ℕ) → (if a && c && e then x else 0) ≡ (if e then (if a && c then x else 0) else 0)
swapped true true true x = refl
swapped true true false x = refl
swapped true false true x = refl
swapped true false false x = refl
swapped false c true x = refl
swapped false c false x = refl

nested : (q e : Bool) (x : ℕ) → (if e then (if q then x else 0) else 0) ≡ (if q && e then x else 0)
nested true true x = refl
nested true false x = refl
nested false true x = refl
nested false false x = refl

one_run : (p : ℕ → Bool) (d j : ℕ) (f : ℕ → ℕ) → sum_below (suc j) (λ i. if is_run p d i j then f i else 0) ≡ (if ends p d j then f (start p j) else 0)
one_run p d j f =
    let e : Bool = not (nat_lt (suc j) d && p (suc j)) in
    sum_same (suc j) (λ i. if is_run p d i j then f i else 0) (λ i. if e then (if begins p i j then f i else 0) else 0) (λ i h. swapped (all_between p i j) (not (nat_lt 0 i && p (i - 1))) e (f i))
    ∙ (sum_where e (suc j) (λ i. if begins p i j then f i else 0)
    ∙ (ap (λ x. if e then x else 0) (one_start p f j)
    ∙ nested (p j) e (f (start p j))))

pub by_last : (p : ℕ → Bool) (d : ℕ) (f : ℕ → ℕ → ℕ) → sum_over_runs p d f ≡ sum_below d (λ j. if ends p d j then f (start p j) j else 0)
by_last p d f = sum_same d (λ j. sum_below (suc j) (λ i. if is_run p d i j then f i j else 0)) (λ j. if ends p d j then f (start p j) j else 0) (λ j h. one_run p d j (λ i. f i j))
