-- The penalties of the soft rules with their weights, and the penalty of a roster (INRC-II; that totals and
-- weekends are counted once, at the end of the horizon, with the history's, is our profile; wishes to work,
-- and a roster that is kept, are our own rules).
use Rattle.std.specs.Prelude.{ℕ, ◌+◌, ◌-◌, ◌*◌, ◌%◌, Bool, true, false, not, ◌&&◌, ◌||◌, ◌==◌, if◌then◌else◌, length, Option, Some, None, is_some}
use Rattle.roster_instance.specs.declared.choice.Shift.{Shift}
use Rattle.roster_rules.specs.declared.penalties.Costs.{Costs}
use Rattle.roster_instance.specs.declared.rules.Border.{Border}
use Rattle.roster_instance.specs.declared.rules.Border.TheVariants.{Free, Working}
use Rattle.roster_instance.specs.Choices.{shift_of}
use Rattle.roster_instance.specs.Counting.{all_below, sum_below}
use Rattle.roster_instance.specs.Days.{Days, shift_on, works, is_off, is_shift, has_shift, days_worked, worked_weekends, split_weekends}
use Rattle.roster_instance.specs.Meaning.{Meaning, day_count, shift_count, skill_count, nurse_count, run_of_shift, past_of, contract_of, has_off_request, has_wish, has_wish_for_any, optimum}
use Rattle.roster_instance.specs.Rosters.{Rows, choice_on, cover, days_of_nurse, row_of}
use Rattle.roster_rules.specs.Runs.{run_violations}
use Rattle.roster_rules.specs.Weights.{staffing_weight, working_run_weight, shift_run_weight, free_run_weight, off_request_weight, split_weight, assignment_weight, weekend_weight, wish_weight}

-- ---- staffing: points for each nurse by whom a slot is short of its optimum

-- the cost of a slot, and of a whole day, if `have` gives the cover of each shift and skill
abbrev pub staffing_cost_of_slot : Meaning → ℕ → (ℕ → ℕ → ℕ) → ℕ → ℕ → ℕ
staffing_cost_of_slot c d have s k = staffing_weight * (optimum c d s k - have s k)

abbrev pub staffing_cost_by : Meaning → ℕ → (ℕ → ℕ → ℕ) → ℕ
staffing_cost_by c d have =
    sum_below (shift_count c) (λ s. sum_below (skill_count c) (staffing_cost_of_slot c d have s))

-- a day of a roster
abbrev pub staffing_cost_of_day : Meaning → Rows → ℕ → ℕ
staffing_cost_of_day c r d = staffing_cost_by c d (cover r d)

-- S1: all days together
abbrev pub staffing_cost : Meaning → Rows → ℕ
staffing_cost c r = sum_below (day_count c) (staffing_cost_of_day c r)

-- ---- runs: how many days of a kind come right before day 0

-- the days off before the first Monday, if the history ends with some
abbrev pub free_before : Border → ℕ
free_before (Free n) = n
free_before (Working s own all) = 0

-- the working days before the first Monday
abbrev pub worked_before : Border → ℕ
worked_before (Free n) = 0
worked_before (Working s own all) = all

-- the days with this shift before the first Monday, if it is the history's last
abbrev pub shift_run_before : ℕ → Border → ℕ
shift_run_before s (Free n) = 0
shift_run_before s (Working t own all) = if t.0 == s then own else 0

-- S2: points for each missing or extra day of a run of working days
abbrev pub working_run_cost : Meaning → ℕ → Days → ℕ
working_run_cost c n days =
    working_run_weight
    * run_violations (contract_of c n).working (worked_before (past_of c n).border) (works days) (length days)

-- points for each missing or extra day of a run of one shift
abbrev pub run_cost_of_shift : Meaning → ℕ → Days → ℕ → ℕ
run_cost_of_shift c n days s =
    shift_run_weight * run_violations (run_of_shift c s) (shift_run_before s (past_of c n).border)
    (has_shift s days) (length days)

-- S2: the same for all shifts
abbrev pub shift_run_cost : Meaning → ℕ → Days → ℕ
shift_run_cost c n days = sum_below (shift_count c) (run_cost_of_shift c n days)

-- S3: points for each missing or extra day of a run of days off
abbrev pub free_run_cost : Meaning → ℕ → Days → ℕ
free_run_cost c n days =
    free_run_weight
    * run_violations (contract_of c n).free (free_before (past_of c n).border) (is_off days) (length days)

-- ---- off requests: points for each assignment against one, counted once, however many requests name it

-- an off request names the shift that is worked, if any
abbrev pub breaks_off_request : Meaning → ℕ → ℕ → Option Shift → Bool
breaks_off_request c n d None = false
breaks_off_request c n d (Some s) = has_off_request c n d s.0

-- what a day with this shift, or with none, costs
abbrev pub off_request_cost_on : Meaning → ℕ → ℕ → Option Shift → ℕ
off_request_cost_on c n d shift = if breaks_off_request c n d shift then off_request_weight else 0

-- S4: all days of a nurse together
abbrev pub off_request_cost : Meaning → ℕ → Days → ℕ
off_request_cost c n days = sum_below (length days) (λ d. off_request_cost_on c n d (shift_on days d))

-- ---- wishes to work (our own rule): points for each day with a wish that isn't met, counted once, however
-- many wishes there are

-- Each wish of a nurse for a day is met: a wish with `Any` if the nurse works, a wish for a shift if the
-- nurse works that shift.
abbrev pub meets_wishes : Meaning → ℕ → ℕ → Option Shift → Bool
meets_wishes c n d shift =
    (not (has_wish_for_any c n d) || is_some shift)
    && all_below (shift_count c) (λ s. not (has_wish c n d s) || is_shift s shift)

abbrev pub wish_cost_on : Meaning → ℕ → ℕ → Option Shift → ℕ
wish_cost_on c n d shift = if meets_wishes c n d shift then 0 else wish_weight

-- S8: all days of a nurse together
abbrev pub wish_cost : Meaning → ℕ → Days → ℕ
wish_cost c n days = sum_below (length days) (λ d. wish_cost_on c n d (shift_on days d))

-- ---- a roster that is kept (our own rule): `keep` points for each day that differs from it

-- both are off, or work the same shift, with whatever skill
abbrev pub same_shift : Option Shift → Option Shift → Bool
same_shift None None = true
same_shift None (Some t) = false
same_shift (Some s) None = false
same_shift (Some s) (Some t) = s.0 == t.0

-- the day has the shift of the roster that is kept
abbrev pub is_kept : Meaning → ℕ → ℕ → Option Shift → Bool
is_kept c n d shift = same_shift (shift_of (choice_on (row_of c.base n) d)) shift

abbrev pub keep_cost_on : Meaning → ℕ → ℕ → Option Shift → ℕ
keep_cost_on c n d shift = if is_kept c n d shift then 0 else c.keep

-- S9: all days of a nurse together
abbrev pub keep_cost : Meaning → ℕ → Days → ℕ
keep_cost c n days = sum_below (length days) (λ d. keep_cost_on c n d (shift_on days d))

-- ---- weekends and totals

-- S5: points for each weekend of which exactly one day is worked, if the contract wants complete weekends
abbrev pub split_cost : Meaning → ℕ → Days → ℕ
split_cost c n days = if (contract_of c n).whole_weekends then split_weight * split_weekends days else 0

-- the assignments, with the history's
abbrev pub total_of : Meaning → ℕ → Days → ℕ
total_of c n days = (past_of c n).assignments + days_worked days

-- the worked weekends, with the history's
abbrev pub weekends_of : Meaning → ℕ → Days → ℕ
weekends_of c n days = (past_of c n).weekends + worked_weekends days

-- points for each assignment below the least total; below, for each above the greatest
abbrev pub missing_cost : Meaning → ℕ → ℕ → ℕ
missing_cost c n total = assignment_weight * ((contract_of c n).total.least - total)

abbrev pub extra_cost : Meaning → ℕ → ℕ → ℕ
extra_cost c n total = assignment_weight * (total - (contract_of c n).total.greatest)

-- S6: both together
abbrev pub totals_cost : Meaning → ℕ → Days → ℕ
totals_cost c n days = missing_cost c n (total_of c n days) + extra_cost c n (total_of c n days)

-- S7: points for each worked weekend above the greatest number
abbrev pub weekends_cost : Meaning → ℕ → Days → ℕ
weekends_cost c n days = weekend_weight * (weekends_of c n days - (contract_of c n).weekends)

-- ---- the sums

-- a nurse's own cost: runs, split weekends, totals and worked weekends
unfoldable pub own_cost : Meaning → ℕ → Days → ℕ
own_cost c n days =
    working_run_cost c n days + shift_run_cost c n days + free_run_cost c n days + split_cost c n days
    + totals_cost c n days + weekends_cost c n days

-- what the nurse's requests cost on a day, and on all days: off requests, wishes to work, and the roster that
-- is kept
abbrev pub request_cost_on : Meaning → ℕ → ℕ → Option Shift → ℕ
request_cost_on c n d shift =
    off_request_cost_on c n d shift + wish_cost_on c n d shift + keep_cost_on c n d shift

abbrev pub request_cost : Meaning → ℕ → Days → ℕ
request_cost c n days = off_request_cost c n days + wish_cost c n days + keep_cost c n days

-- all that a nurse's row costs, apart from staffing
abbrev pub nurse_cost : Meaning → ℕ → Days → ℕ
nurse_cost c n days = own_cost c n days + request_cost c n days

-- one rule for all nurses together
abbrev pub over_nurses : Meaning → Rows → (ℕ → Days → ℕ) → ℕ
over_nurses c r rule = sum_below (nurse_count c) (λ n. rule n (days_of_nurse r n))

-- the penalty of each rule
unfoldable pub costs_of : Meaning → Rows → Costs
costs_of c r = record {
  s1 = staffing_cost c r;
  s2 = over_nurses c r (λ n days. working_run_cost c n days + shift_run_cost c n days);
  s3 = over_nurses c r (free_run_cost c);
  s4 = over_nurses c r (off_request_cost c);
  s5 = over_nurses c r (split_cost c);
  s6 = over_nurses c r (totals_cost c);
  s7 = over_nurses c r (weekends_cost c);
  s8 = over_nurses c r (wish_cost c);
  s9 = over_nurses c r (keep_cost c);
}

-- the sum of all rules
abbrev pub total_cost : Costs → ℕ
total_cost k = k.s1 + k.s2 + k.s3 + k.s4 + k.s5 + k.s6 + k.s7 + k.s8 + k.s9

-- the roster's penalty
unfoldable pub penalty : Meaning → Rows → ℕ
penalty c r = total_cost (costs_of c r)

-- each penalty is a multiple of this unit: of 5, as each weight is, or of 1 if a roster is kept at a number
-- of points that isn't a multiple of 5
unfoldable pub penalty_unit : Meaning → ℕ
penalty_unit c = if c.keep % 5 == 0 then 5 else 1
