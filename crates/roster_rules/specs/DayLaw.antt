-- What changes as a row gets one more day.
use Rattle.std.specs.Prelude.{ℕ, ◌%◌, Bool, not, ◌&&◌, ◌==◌, if◌then◌else◌, length, Option}
use Rattle.roster_instance.specs.declared.choice.Shift.{Shift}
use Rattle.roster_instance.specs.declared.rules.Limits.{Limits}
use Rattle.roster_instance.specs.Counting.{one_if}
use Rattle.roster_instance.specs.Days.{Days, one_alone, shift_on}
use Rattle.roster_instance.specs.RunLaw.{day_violations}
use Rattle.roster_rules.specs.Runs.{open_run, run_violations}

-- ---- runs

-- the kind of the days whose shift passes a test
abbrev pub day_passes : (Option Shift → Bool) → Days → ℕ → Bool
day_passes t days k = t (shift_on days k)

-- the violations of a row's runs of such days
abbrev pub violations_in : Limits → ℕ → (Option Shift → Bool) → Days → ℕ
violations_in l b t days = run_violations l b (day_passes t days) (length days)

-- the run of such days that is open at the row's end
abbrev pub open_run_in : ℕ → (Option Shift → Bool) → Days → ℕ
open_run_in b t days = open_run b (day_passes t days) (length days)

-- what one more day, with or without a shift, adds to the violations
abbrev pub added_by : Limits → ℕ → (Option Shift → Bool) → Days → Option Shift → ℕ
added_by l b t days c = day_violations l (open_run_in b t days) (t c)

-- ---- weekends: their counts change only on a Saturday and on a Sunday. `before` says whether the day before
-- is worked, `now` whether the new day is, and d is the number of the new day

abbrev pub is_saturday : ℕ → Bool
is_saturday d = d % 7 == 5

abbrev pub is_sunday : ℕ → Bool
is_sunday d = d % 7 == 6

-- a worked Saturday counts, and a worked Sunday if the Saturday isn't worked
abbrev pub weekends_more : ℕ → Bool → Bool → ℕ
weekends_more d before now =
    if is_saturday d then one_if now else if is_sunday d then one_if (not before && now) else 0

-- a Sunday ends a weekend
abbrev pub splits_more : ℕ → Bool → Bool → ℕ
splits_more d before now = if is_sunday d then one_if (one_alone before now) else 0
