-- Runs: maximal intervals of the days of one kind, and how far they are outside a least and a greatest
-- length. A kind is a test of days, d is the horizon, and b the number of days of that kind right before day
-- 0. A run that goes on from there has b days more. One that ends before day 0 owes its least; one that is
-- open on the last day doesn't (INRC-II; the border is our profile).
use Rattle.std.specs.Prelude.{ℕ, suc, ◌+◌, ◌-◌, Bool, not, ◌&&◌, ◌||◌, ◌==◌, nat_lt, nat_le, if◌then◌else◌}
use Rattle.roster_instance.specs.declared.rules.Limits.{Limits}
use Rattle.roster_instance.specs.Counting.{sum_below, all_below, one_if}

-- all days from i to j are of the kind
abbrev pub all_between : (ℕ → Bool) → ℕ → ℕ → Bool
all_between p i j = all_below (suc j) (λ k. nat_lt k i || p k)

-- the same, and neither the day before nor the day after is of the kind, if there is one
abbrev pub is_run : (ℕ → Bool) → ℕ → ℕ → ℕ → Bool
is_run p d i j = all_between p i j && not (nat_lt 0 i && p (i - 1)) && not (nat_lt (suc j) d && p (suc j))

abbrev pub sum_over_runs : (ℕ → Bool) → ℕ → (ℕ → ℕ → ℕ) → ℕ
sum_over_runs p d f = sum_below d (λ j. sum_below (suc j) (λ i. if is_run p d i j then f i j else 0))

-- the place of day k in the run that begins on day i, from 1; that of the last day is the length
abbrev pub place : ℕ → ℕ → ℕ → ℕ
place b i k = k - i + 1 + (if i == 0 then b else 0)

-- the extra days of the run from i to j: those whose place is above the greatest
abbrev pub over : Limits → ℕ → ℕ → ℕ → ℕ
over l b i j = sum_below (suc j) (λ k. one_if (nat_le i k && nat_lt l.greatest (place b i k)))

-- the missing days of the run
abbrev pub under : Limits → ℕ → ℕ → ℕ → ℕ → ℕ
under l b d i j = if suc j == d then 0 else l.least - place b i j

-- the missing days of a run that ended before day 0
abbrev pub border_under : Limits → ℕ → (ℕ → Bool) → ℕ → ℕ
border_under l b p d = if nat_lt 0 b && nat_lt 0 d && not (p 0) then l.least - b else 0

-- the missing and the extra days of all runs
unfoldable pub run_violations : Limits → ℕ → (ℕ → Bool) → ℕ → ℕ
run_violations l b p d = sum_over_runs p d (λ i j. over l b i j + under l b d i j) + border_under l b p d

-- the length of the run that is open at the end, 0 if there is none
unfoldable pub open_run : ℕ → (ℕ → Bool) → ℕ → ℕ
open_run b p d = if d == 0 then b else sum_over_runs p d (λ i j. if suc j == d then place b i j else 0)
