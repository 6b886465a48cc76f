-- A transition: one more day, by the summary of the days before it (our own, for the search). Each run that
-- may be open has one number: the summary's if its kind is that of the last day, otherwise 0.
use Rattle.std.specs.Prelude.{ℕ, ◌+◌, ◌*◌, not, true, false, min, nat_le, if◌then◌else◌, Option, Some, None, is_some}
use Rattle.roster_instance.specs.declared.choice.Shift.{Shift}
use Rattle.roster_instance.specs.declared.rules.Limits.{Limits}
use Rattle.roster_instance.specs.Counting.{one_if, sum_below}
use Rattle.roster_rules.specs.DayLaw.{splits_more, weekends_more}
use Rattle.roster_instance.specs.Days.{is_shift}
use Rattle.roster_instance.specs.Meaning.{Meaning, contract_of, forbids, run_of_shift, shift_count}
use Rattle.roster_rules.specs.Penalties.{missing_cost}
use Rattle.roster_rules.specs.Prefix.{Summary}
use Rattle.roster_instance.specs.Sizes.{cap}
use Rattle.roster_instance.specs.RunLaw.{day_violations}
use Rattle.roster_rules.specs.Weights.{working_run_weight, shift_run_weight, free_run_weight, split_weight, assignment_weight, weekend_weight}

-- ---- the runs that are open

-- the run of working days, 0 if the last day was off
abbrev pub working_run : Summary → ℕ
working_run s = if is_some s.last then s.run else 0

-- the run of days off, 0 if the last day was worked
abbrev pub free_run : Summary → ℕ
free_run s = if is_some s.last then 0 else s.run

-- the run of a shift, 0 if it isn't the last one
abbrev pub open_shift_run : Summary → ℕ → ℕ
open_shift_run s t = if is_shift t s.last then s.shift_run else 0

-- ---- what one more day costs

-- S2: points for each missing or extra day of the runs of working days
abbrev pub working_more : Meaning → ℕ → Summary → Option Shift → ℕ
working_more c n s shift =
    working_run_weight * day_violations (contract_of c n).working (working_run s) (is_some shift)

-- S3: points for each missing or extra day of the runs of days off
abbrev pub free_more : Meaning → ℕ → Summary → Option Shift → ℕ
free_more c n s shift =
    free_run_weight * day_violations (contract_of c n).free (free_run s) (not (is_some shift))

-- points for each missing or extra day of the runs of the shifts
abbrev pub shift_more : Meaning → Summary → Option Shift → ℕ → ℕ
shift_more c s shift t =
    shift_run_weight * day_violations (run_of_shift c t) (open_shift_run s t) (is_shift t shift)

-- S2: points for the runs of all shifts
abbrev pub shifts_more : Meaning → Summary → Option Shift → ℕ
shifts_more c s shift = sum_below (shift_count c) (shift_more c s shift)

-- of all shifts at most two count: the last one, whose run ends, and the worked one, which may be an extra
-- day
abbrev pub ended : (ℕ → Limits) → Option Shift → ℕ → Option Shift → ℕ
ended runs None run shift = 0
ended runs (Some t) run shift = if is_shift t.0 shift then 0 else day_violations (runs t.0) run false

abbrev pub worked : (ℕ → Limits) → Option Shift → ℕ → Option Shift → ℕ
worked runs last run None = 0
worked runs last run (Some u) = day_violations (runs u.0) (if is_shift u.0 last then run else 0) true

-- S5: points for a weekend that this day splits, if the contract wants whole weekends
abbrev pub split_more : Meaning → ℕ → ℕ → Summary → Option Shift → ℕ
split_more c n day s shift =
    if (contract_of c n).whole_weekends
    then split_weight * splits_more day (is_some s.last) (is_some shift) else 0

-- S6: points for an assignment above the greatest total
abbrev pub total_more : Meaning → ℕ → Summary → Option Shift → ℕ
total_more c n s shift =
    if nat_le (contract_of c n).total.greatest s.assignments
    then assignment_weight * one_if (is_some shift) else 0

-- S7: points for a worked weekend above the greatest number
abbrev pub weekend_more : Meaning → ℕ → ℕ → Summary → Option Shift → ℕ
weekend_more c n day s shift =
    if nat_le (contract_of c n).weekends s.weekends
    then weekend_weight * weekends_more day (is_some s.last) (is_some shift) else 0

-- all costs that don't depend on the assignments
abbrev pub cost_apart : Meaning → ℕ → ℕ → Summary → Option Shift → ℕ
cost_apart c n day s shift =
    working_more c n s shift + free_more c n s shift + shifts_more c s shift + split_more c n day s shift
    + weekend_more c n day s shift

-- what the day costs
unfoldable pub transition_cost : Meaning → ℕ → ℕ → Summary → Option Shift → ℕ
transition_cost c n day s shift =
    working_more c n s shift + free_more c n s shift + shifts_more c s shift + split_more c n day s shift
    + total_more c n s shift + weekend_more c n day s shift

-- ---- the summary with that day

abbrev pub run_with : Meaning → ℕ → Summary → Option Shift → ℕ
run_with c n s None = min (free_run s + 1) (cap (contract_of c n).free)
run_with c n s (Some t) = min (working_run s + 1) (cap (contract_of c n).working)

abbrev pub shift_run_with : Meaning → Summary → Option Shift → ℕ
shift_run_with c s None = 0
shift_run_with c s (Some t) = min (open_shift_run s t.0 + 1) (cap (run_of_shift c t.0))

-- the five numbers after the day
unfoldable pub next_of : Meaning → ℕ → ℕ → Summary → Option Shift → Summary
next_of c n day s shift = record {
  last = shift;
  run = run_with c n s shift;
  shift_run = shift_run_with c s shift;
  assignments = min (s.assignments + one_if (is_some shift)) (cap (contract_of c n).total);
  weekends = min (s.weekends + weekends_more day (is_some s.last) (is_some shift)) (contract_of c n).weekends;
}

-- the summary after one more day and the cost of the day, none if the last shift forbids it
abbrev pub transition_of : Meaning → ℕ → ℕ → Summary → Option Shift → Option (Summary × ℕ)
transition_of c n day s shift =
    if forbids c.successions s.last shift then None
    else Some (next_of c n day s shift, transition_cost c n day s shift)

-- the same summary with that many assignments
abbrev pub with_assignments : Summary → ℕ → Summary
with_assignments s a = record s { assignments = a }

-- the same summary with that many worked weekends
abbrev pub with_weekends : Summary → ℕ → Summary
with_weekends s w = record s { weekends = w }

-- S6: points for each assignment missing to the least total, at the end
abbrev pub end_cost_of : Meaning → ℕ → Summary → ℕ
end_cost_of c n s = missing_cost c n s.assignments
