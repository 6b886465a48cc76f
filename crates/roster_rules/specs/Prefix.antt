-- What the first days of a row cost, and the five numbers on which the cost of the further days depends (our
-- own, for the search).
use Rattle.std.specs.Prelude.{ℕ, ◌+◌, length, min, Option, Some, None}
use Rattle.roster_instance.specs.declared.choice.Shift.{Shift}
use Rattle.roster_instance.specs.Days.{Days, works, is_off, has_shift}
use Rattle.roster_rules.specs.HardRules.{shift_before}
use Rattle.roster_instance.specs.Meaning.{Meaning, run_of_shift, past_of, contract_of, last_shift}
use Rattle.roster_instance.specs.Sizes.{cap}
use Rattle.roster_rules.specs.Penalties.{free_before, worked_before, shift_run_before, working_run_cost, shift_run_cost, free_run_cost, split_cost, total_of, weekends_of, extra_cost, weekends_cost}
use Rattle.roster_rules.specs.Runs.{open_run}

-- a nurse's own cost so far, without the missing assignments, as if the horizon ended with these days
unfoldable pub due : Meaning → ℕ → Days → ℕ
due c n days =
    working_run_cost c n days + shift_run_cost c n days + free_run_cost c n days + split_cost c n days
    + extra_cost c n (total_of c n days) + weekends_cost c n days

-- the last shift, the run of working or free days that ends these days, the run of that shift, the
-- assignments and the worked weekends with the history's, each up to its cap
pub record Summary : Type 0 where
  pub last : Option Shift
  pub run : ℕ
  pub shift_run : ℕ
  pub assignments : ℕ
  pub weekends : ℕ

-- the shift of the last day, or the history's if there is no day
abbrev pub last_of : Meaning → ℕ → Days → Option Shift
last_of c n days = shift_before (last_shift (past_of c n).border) days (length days)

-- the open run of working days if a shift is last, else that of days off, up to its cap
abbrev pub last_run_of : Meaning → ℕ → Days → Option Shift → ℕ
last_run_of c n days None =
    min (open_run (free_before (past_of c n).border) (is_off days) (length days)) (cap (contract_of c n).free)
last_run_of c n days (Some s) =
    min (open_run (worked_before (past_of c n).border) (works days) (length days))
    (cap (contract_of c n).working)

-- the open run of the last shift, up to its cap
abbrev pub shift_run_of : Meaning → ℕ → Days → Option Shift → ℕ
shift_run_of c n days None = 0
shift_run_of c n days (Some s) =
    min (open_run (shift_run_before s.0 (past_of c n).border) (has_shift s.0 days) (length days))
    (cap (run_of_shift c s.0))

-- the summary of these days
unfoldable pub summary_of : Meaning → ℕ → Days → Summary
summary_of c n days = record {
  last = last_of c n days;
  run = last_run_of c n days (last_of c n days);
  shift_run = shift_run_of c n days (last_of c n days);
  assignments = min (total_of c n days) (cap (contract_of c n).total);
  weekends = min (weekends_of c n days) (contract_of c n).weekends;
}
