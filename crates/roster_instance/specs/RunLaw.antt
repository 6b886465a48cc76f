-- What one more day adds to the violations of runs, if `run` days of the kind come right before it. A day of
-- the kind is an extra day if the run has its greatest length. Any other day ends the run, which then owes
-- the days that are missing to its least length.
use Rattle.std.specs.Prelude.{ℕ, ◌+◌, ◌-◌, Bool, true, false, nat_lt, if◌then◌else◌}
use Rattle.roster_instance.specs.declared.rules.Limits.{Limits}
use Rattle.roster_instance.specs.Counting.{one_if}

abbrev pub day_violations : Limits → ℕ → Bool → ℕ
day_violations l run true = one_if (nat_lt l.greatest (run + 1))
day_violations l run false = if nat_lt 0 run then l.least - run else 0
