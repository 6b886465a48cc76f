-- A bound for the violations of the runs in a row, given that the numbers of an instance are small: for each
-- day of the kind one more than the greatest small number. A day has one shift at most, so the runs of all
-- shifts together have no more violations than this allows for one shift. A day is either worked or off, so
-- the same holds for the runs of working days and of days off together.
use Rattle.std.proofs.Common.{◌≡◌, refl, arith, ℕ, zero, suc, ◌+◌, ◌-◌, ◌*◌, ◌<◌, ◌≤◌, Bool, true, false, not, nat_lt, ◌==◌, mul-add, length, if◌then◌else◌, Option, Some, None}
use Rattle.std.proofs.lemmas.Bool.{eqb-true, ne_eqb}
use Rattle.roster_instance.specs.declared.choice.Shift.{Shift}
use Rattle.roster_instance.specs.declared.rules.Border.{Border}
use Rattle.roster_instance.specs.declared.rules.Border.TheVariants.{Free, Working}
use Rattle.roster_instance.specs.declared.rules.Limits.{Limits}
use Rattle.roster_instance.specs.Counting.{sum_below, one_if, count_below}
use Rattle.roster_instance.specs.Days.{Days, shift_on, works, is_off, is_shift, has_shift}
use Rattle.roster_instance.specs.Limits.{most_small}
use Rattle.roster_rules.specs.Penalties.{free_before, worked_before, shift_run_before}
use Rattle.roster_rules.specs.Weights.{shift_run_weight}
use Rattle.roster_instance.specs.RunLaw.{day_violations}
use Rattle.roster_rules.specs.Runs.{run_violations, open_run}
use Rattle.roster_instance.specs.Small.{AreSmall}
use Rattle.roster_rules.proofs.RunLaw.{no_violations, border, violations, grown}
use Rattle.roster_rules.proofs.RunSums.{sum_zero}

-- ---- sums

pub where_within : (q : Bool) (x m : ℕ) → x ≤ m → (if q then x else 0) ≤ m
where_within true x m h = h
where_within false x m h = omega arith

pub sum_within : (n m : ℕ) (f : ℕ → ℕ) → ((k : ℕ) → k < n → f k ≤ m) → sum_below n f ≤ n * m
sum_within zero m f h = omega arith
sum_within (suc n) m f h =
    let rest : sum_below n f ≤ n * m = sum_within n m f (λ k l. h k (omega arith)) in
    let last : f n ≤ m = h n (omega arith) in
    omega arith

pub count_within : (n : ℕ) (p : ℕ → Bool) → count_below n p ≤ n
count_within n p = omega (arith, sum_within n 1 (λ k. one_if (p k)) (λ k h. where_within (p k) 1 1 (omega arith)))

pub sum_both : (n : ℕ) (f g : ℕ → ℕ) → sum_below n (λ k. f k + g k) ≡ sum_below n f + sum_below n g
sum_both zero f g = refl
sum_both (suc n) f g = omega (arith, sum_both n f g)

sum_times : (n a : ℕ) (f : ℕ → ℕ) → sum_below n (λ k. a * f k) ≡ a * sum_below n f
sum_times zero a f = omega arith
sum_times (suc n) a f = omega (arith, sum_times n a f, mul-add a (sum_below n f) (f n))

-- one sum of n numbers is at most another if each of its numbers is
pub sum_compared : (n : ℕ) (f g : ℕ → ℕ) → ((k : ℕ) → f k ≤ g k) → sum_below n f ≤ sum_below n g
sum_compared zero f g h = omega arith
sum_compared (suc n) f g h = omega (arith, sum_compared n f g h, h n)

-- at most one of the numbers counts
one_more : (n t m : ℕ) (q : Bool) → (t == n) ≡ q → sum_below n (λ s. if t == s then m else 0) ≤ m → sum_below n (λ s. if t == s then m else 0) + (if q then m else 0) ≤ m
one_more n t m true e h =
    let at : t ≡ n = eqb-true t n e in
    let before : sum_below n (λ s. if t == s then m else 0) ≡ 0 = sum_zero n (λ s. if t == s then m else 0) (λ s l. rw (ne_eqb t s (λ f. omega arith))) in
    omega arith
one_more n t m false e h = omega arith

pub sum_of_one : (n t m : ℕ) → sum_below n (λ s. if t == s then m else 0) ≤ m
sum_of_one zero t m = omega arith
sum_of_one (suc n) t m = one_more n t m (t == n) refl (sum_of_one n t m)

-- ---- runs

-- the most that a run of this length may still owe when it ends
abbrev debt : ℕ → ℕ
debt run = if nat_lt 0 run then most_small else 0

-- a day of the kind is at most one extra day, and may begin a debt; another day pays no more than the debt
day_within : (l : Limits) (run : ℕ) (q : Bool) → AreSmall l → day_violations l run q + debt (if q then run + 1 else 0) ≤ debt run + (most_small + 1) * one_if q
day_within l run true small =
    let one : one_if (nat_lt l.greatest (run + 1)) ≤ 1 = where_within (nat_lt l.greatest (run + 1)) 1 1 (omega arith) in
    let new : debt (run + 1) ≤ most_small = where_within (nat_lt 0 (run + 1)) most_small most_small (omega arith) in
    omega arith
day_within l run false small = by (nat_lt 0 run)
  where
    by : (t : Bool) → (if t then l.least - run else 0) + 0 ≤ (if t then most_small else 0) + 0
    by true = omega (arith, small.least)
    by false = omega arith

runs_and_debt : (l : Limits) (b : ℕ) (p : ℕ → Bool) (d : ℕ) → AreSmall l → run_violations l b p d + debt (open_run b p d) ≤ debt b + (most_small + 1) * count_below d p
runs_and_debt l b p zero small = rw (border b p) (omega (arith, no_violations l b p))
runs_and_debt l b p (suc d) small =
    let before = runs_and_debt l b p d small in
    let day = day_within l (open_run b p d) (p d) small in
    rw (grown b p d) (omega (arith, violations l b p d, before, day))

runs_within : (l : Limits) (b : ℕ) (p : ℕ → Bool) (d : ℕ) → AreSmall l → run_violations l b p d ≤ debt b + (most_small + 1) * count_below d p
runs_within l b p d small = omega (arith, runs_and_debt l b p d small)

-- ---- working days and days off together: each day is one or the other, and so are the days before day 0

one_of : (q : Bool) → one_if q + one_if (not q) ≡ 1
one_of true = refl
one_of false = refl

all_days : (days : Days) (d : ℕ) → count_below d (works days) + count_below d (is_off days) ≡ d
all_days days zero = refl
all_days days (suc d) = omega (arith, all_days days d, one_of (works days d))

debts_of_both : (before : Border) → debt (worked_before before) + debt (free_before before) ≤ most_small
debts_of_both (Free k) = omega (arith, where_within (nat_lt 0 k) most_small most_small (omega arith))
debts_of_both (Working t own all) = omega (arith, where_within (nat_lt 0 all) most_small most_small (omega arith))

pub both_runs_within : (working free : Limits) (before : Border) (days : Days) → AreSmall working → AreSmall free
    → run_violations working (worked_before before) (works days) (length days) + run_violations free (free_before before) (is_off days) (length days) ≤ most_small + (most_small + 1) * length days
both_runs_within working free before days small_working small_free =
    omega (
      arith,
      runs_within working (worked_before before) (works days) (length days) small_working,
      runs_within free (free_before before) (is_off days) (length days) small_free,
      debts_of_both before,
      all_days days (length days),
    )

-- ---- all shifts together: each day has at most one, and so has each day before day 0

shift_of_day : (n : ℕ) (o : Option Shift) → sum_below n (λ s. one_if (is_shift s o)) ≤ 1
shift_of_day n None = omega (arith, sum_zero n (λ s. 0) (λ s h. refl))
shift_of_day n (Some t) = sum_of_one n t.0 1

shift_days_within : (n : ℕ) (days : Days) (d : ℕ) → sum_below n (λ s. count_below d (has_shift s days)) ≤ d
shift_days_within n days zero = omega (arith, sum_zero n (λ s. 0) (λ s h. refl))
shift_days_within n days (suc d) =
    omega (arith, sum_both n (λ s. count_below d (has_shift s days)) (λ s. one_if (has_shift s days d)), shift_days_within n days d, shift_of_day n (shift_on days d))

debt_of_one : (q : Bool) (run : ℕ) → debt (if q then run else 0) ≤ (if q then most_small else 0)
debt_of_one true run = where_within (nat_lt 0 run) most_small most_small (omega arith)
debt_of_one false run = omega arith

debts_within : (n : ℕ) (before : Border) → sum_below n (λ s. debt (shift_run_before s before)) ≤ most_small
debts_within n (Free k) = omega (arith, sum_zero n (λ s. debt 0) (λ s h. refl))
debts_within n (Working t own all) =
    omega (arith, sum_compared n (λ s. debt (if t.0 == s then own else 0)) (λ s. if t.0 == s then most_small else 0) (λ s. debt_of_one (t.0 == s) own), sum_of_one n t.0 most_small)

pub all_shifts_within : (n : ℕ) (limits : ℕ → Limits) (before : Border) (days : Days) → ((s : ℕ) → AreSmall (limits s)) → sum_below n (λ s. shift_run_weight * run_violations (limits s) (shift_run_before s before) (has_shift s days) (length days)) ≤ shift_run_weight * (most_small + (most_small + 1) * length days)
all_shifts_within n limits before days small =
    let owes : ℕ → ℕ = λ s. debt (shift_run_before s before) in
    let has : ℕ → ℕ = λ s. count_below (length days) (has_shift s days) in
    let violations_of : ℕ → ℕ = λ s. run_violations (limits s) (shift_run_before s before) (has_shift s days) (length days) in
    let each : sum_below n violations_of ≤ sum_below n (λ s. owes s + (most_small + 1) * has s) =
    sum_compared n violations_of (λ s. owes s + (most_small + 1) * has s) (λ s. runs_within (limits s) (shift_run_before s before) (has_shift s days) (length days) (small s)) in
    omega (arith, sum_times n shift_run_weight violations_of, each, sum_both n owes (λ s. (most_small + 1) * has s), sum_times n (most_small + 1) has, debts_within n before, shift_days_within n days (length days))
