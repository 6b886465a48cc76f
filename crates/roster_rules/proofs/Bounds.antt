-- Bounds for the penalties of a roster, given that the numbers of an instance are small: all sums stay below
-- 2^33. The bounds are those of the largest case, by its limits and the weights.
use Rattle.std.proofs.Common.{◌≡◌, sym, arith, ℕ, Bool, ◌+◌, ◌-◌, ◌*◌, ◌<◌, ◌≤◌, true, false, ◌||◌, length, max, if◌then◌else◌, Option}
use Rattle.roster_instance.specs.declared.choice.Shift.{Shift}
use Rattle.roster_instance.specs.Counting.{sum_below}
use Rattle.roster_instance.specs.Days.{Days, shift_on, works, days_worked, saturday, worked_weekends, weekends_begun, weekends_ended, split_weekends, one_alone}
use Rattle.roster_instance.specs.Limits.{most_days, most_keep, most_nurses, most_shifts, most_skills, most_small, most_weeks}
use Rattle.roster_instance.specs.Meaning.{Meaning, week_count, day_count, shift_count, skill_count, nurse_count, run_of_shift, past_of, contract_of, optimum}
use Rattle.roster_rules.specs.Penalties.{staffing_cost, staffing_cost_of_day, working_run_cost, shift_run_cost, free_run_cost, breaks_off_request, meets_wishes, off_request_cost, is_kept, keep_cost, keep_cost_on, request_cost, request_cost_on, wish_cost, wish_cost_on, split_cost, totals_cost, weekends_cost, over_nurses, costs_of, total_cost}
use Rattle.roster_rules.specs.PenaltyBounds.{most_penalty, most_penalty_unkept, most_staffing, penalty_limit}
use Rattle.roster_rules.specs.Weights.{staffing_weight, working_run_weight, shift_run_weight, free_run_weight, most_request, off_request_weight, split_weight, assignment_weight, weekend_weight, wish_weight}
use Rattle.roster_instance.specs.Rosters.{Rows, days_of_nurse, cover, fits_case}
use Rattle.roster_instance.specs.Small.{HasSmallNumbers}
use Rattle.roster_instance.proofs.RosterFacts.{days_of_nurse-length}
use Rattle.roster_rules.proofs.RunBounds.{where_within, sum_both, sum_within, count_within, both_runs_within, all_shifts_within}

-- ---- staffing

abbrev most_staffing_of_slot : ℕ
most_staffing_of_slot = staffing_weight * most_small

abbrev most_staffing_of_shift : ℕ
most_staffing_of_shift = most_skills * most_staffing_of_slot

abbrev most_staffing_of_day : ℕ
most_staffing_of_day = most_shifts * most_staffing_of_shift

staffing_cost_of_day-within : (c : Meaning) (r : Rows) (d : ℕ) → HasSmallNumbers c → shift_count c ≤ most_shifts → skill_count c ≤ most_skills → staffing_cost_of_day c r d ≤ most_staffing_of_day
staffing_cost_of_day-within c r d small shifts skills = omega (arith, sum_within (shift_count c) most_staffing_of_shift of_shift (λ s h. shift s))
  where
    missing_at : ℕ → ℕ → ℕ
    missing_at s k = staffing_weight * (optimum c d s k - cover r d s k)

    of_shift : ℕ → ℕ
    of_shift s = sum_below (skill_count c) (missing_at s)

    skill : (s k : ℕ) → missing_at s k ≤ most_staffing_of_slot
    skill s k = omega (arith, (small.needs d s k).optimum)

    shift : (s : ℕ) → of_shift s ≤ most_staffing_of_shift
    shift s = omega (arith, sum_within (skill_count c) most_staffing_of_slot (missing_at s) (λ k h. skill s k))

pub staffing_cost-within : (c : Meaning) (r : Rows) → HasSmallNumbers c → shift_count c ≤ most_shifts → skill_count c ≤ most_skills → day_count c ≤ most_days → staffing_cost c r ≤ most_staffing
staffing_cost-within c r small shifts skills days =
    omega (arith, sum_within (day_count c) most_staffing_of_day (staffing_cost_of_day c r) (λ d h. staffing_cost_of_day-within c r d small shifts skills))

-- ---- one nurse

-- the most missing and extra days of all runs of a kind
abbrev most_run_violations : ℕ
most_run_violations = most_small + (most_small + 1) * most_days

-- the points for working days and days off together, and those for all shifts
abbrev most_working_and_free : ℕ
most_working_and_free = max working_run_weight free_run_weight * most_run_violations

abbrev most_shift : ℕ
most_shift = shift_run_weight * most_run_violations

abbrev most_off_requests : ℕ
most_off_requests = off_request_weight * most_days

abbrev most_wishes : ℕ
most_wishes = wish_weight * most_days

abbrev most_kept : ℕ
most_kept = most_keep * most_days

abbrev most_split : ℕ
most_split = split_weight * most_weeks

-- the points for missing assignments, and for extra ones with the history's
abbrev most_totals : ℕ
most_totals = assignment_weight * most_small + assignment_weight * (most_small + most_days)

abbrev most_weekends : ℕ
most_weekends = weekend_weight * (most_small + most_weeks)

unless_within : (met : Bool) → (if met then 0 else wish_weight) ≤ wish_weight
unless_within true = omega arith
unless_within false = omega arith

kept_within : (kept : Bool) (keep : ℕ) → keep ≤ most_keep → (if kept then 0 else keep) ≤ most_keep
kept_within true keep few = omega arith
kept_within false keep few = few

nothing_kept : (kept : Bool) (keep : ℕ) → keep ≡ 0 → (if kept then 0 else keep) ≤ 0
nothing_kept true keep none = omega arith
nothing_kept false keep none = omega (arith, none)

pub request_on-within : (c : Meaning) (n d : ℕ) (shift : Option Shift) → c.keep ≤ most_keep → request_cost_on c n d shift ≤ most_request
request_on-within c n d shift few =
    omega (arith, where_within (breaks_off_request c n d shift) off_request_weight off_request_weight (omega arith), unless_within (meets_wishes c n d shift), kept_within (is_kept c n d shift) c.keep few)

pub request_on-unkept : (c : Meaning) (n d : ℕ) (shift : Option Shift) → c.keep ≡ 0 → request_cost_on c n d shift + most_keep ≤ most_request
request_on-unkept c n d shift none =
    omega (arith, where_within (breaks_off_request c n d shift) off_request_weight off_request_weight (omega arith), unless_within (meets_wishes c n d shift), nothing_kept (is_kept c n d shift) c.keep none)

module _ (c : Meaning) (n : ℕ) (days : Days) (small : HasSmallNumbers c) (few : length days ≤ most_days) where
  pub both_run_costs-within : working_run_cost c n days + free_run_cost c n days ≤ most_working_and_free
  both_run_costs-within =
      omega (arith, both_runs_within (contract_of c n).working (contract_of c n).free (past_of c n).border days (small.contracts n).working (small.contracts n).free)

  pub shift_run_cost-within : shift_run_cost c n days ≤ most_shift
  shift_run_cost-within = omega (arith, all_shifts_within (shift_count c) (run_of_shift c) (past_of c n).border days small.runs)

  pub off_request_cost-within : off_request_cost c n days ≤ most_off_requests
  off_request_cost-within =
      omega (arith, sum_within (length days) off_request_weight (λ d. if breaks_off_request c n d (shift_on days d) then off_request_weight else 0) (λ d h. where_within (breaks_off_request c n d (shift_on days d)) off_request_weight off_request_weight (omega arith)))

  pub wish_cost-within : wish_cost c n days ≤ most_wishes
  wish_cost-within = omega (arith, sum_within (length days) wish_weight (λ d. wish_cost_on c n d (shift_on days d)) (λ d h. unless_within (meets_wishes c n d (shift_on days d))))

  pub keep_cost-within : keep_cost c n days ≤ most_kept
  keep_cost-within = omega (arith, sum_within (length days) most_keep (λ d. keep_cost_on c n d (shift_on days d)) (λ d h. kept_within (is_kept c n d (shift_on days d)) c.keep small.keep))

  no_keep_cost : c.keep ≡ 0 → keep_cost c n days ≤ 0
  no_keep_cost none = omega (arith, sum_within (length days) 0 (λ d. keep_cost_on c n d (shift_on days d)) (λ d h. nothing_kept (is_kept c n d (shift_on days d)) c.keep none))

  pub request_cost-within : request_cost c n days ≤ most_off_requests + most_wishes + most_kept
  request_cost-within = omega (arith, off_request_cost-within, wish_cost-within, keep_cost-within)

  pub split_cost-within : split_cost c n days ≤ most_split
  split_cost-within =
      let count : split_weekends days ≤ weekends_ended days = count_within (weekends_ended days) (λ v. one_alone (works days (saturday v)) (works days (saturday v + 1))) in
      where_within (contract_of c n).whole_weekends (split_weight * split_weekends days) most_split (omega arith)

  pub totals_cost-within : totals_cost c n days ≤ most_totals
  totals_cost-within =
      let worked : days_worked days ≤ length days = count_within (length days) (works days) in
      omega (arith, (small.contracts n).total.least, (small.past n).assignments)

  pub weekends_cost-within : weekends_cost c n days ≤ most_weekends
  weekends_cost-within =
      let count : worked_weekends days ≤ weekends_begun days = count_within (weekends_begun days) (λ v. works days (saturday v) || works days (saturday v + 1)) in
      omega (arith, (small.past n).weekends)

  -- in numbers at most 16,548,965
  pub parts-within : working_run_cost c n days + shift_run_cost c n days + free_run_cost c n days + request_cost c n days + split_cost c n days + totals_cost c n days + weekends_cost c n days < 4294967296
  parts-within = omega (arith, both_run_costs-within, shift_run_cost-within, request_cost-within, split_cost-within, totals_cost-within, weekends_cost-within)

-- ---- all nurses

over_nurses-within : (c : Meaning) (r : Rows) (rule : ℕ → Days → ℕ) (m : ℕ) → ((n : ℕ) (days : Days) → length days ≤ most_days → rule n days ≤ m) → ((n : ℕ) → n < nurse_count c → length (days_of_nurse r n) ≤ most_days) → over_nurses c r rule ≤ nurse_count c * m
over_nurses-within c r rule m each few = sum_within (nurse_count c) m (λ n. rule n (days_of_nurse r n)) (λ n h. each n (days_of_nurse r n) (few n h))

both_rules : (c : Meaning) (r : Rows) (rule other : ℕ → Days → ℕ) → over_nurses c r rule + over_nurses c r other ≡ over_nurses c r (λ n days. rule n days + other n days)
both_rules c r rule other = sym (sum_both (nurse_count c) (λ n. rule n (days_of_nurse r n)) (λ n. other n (days_of_nurse r n)))

-- the days of each nurse
few_days : (c : Meaning) (r : Rows) → week_count c ≤ most_weeks → fits_case c r ≡ true → (n : ℕ) → n < nurse_count c → length (days_of_nurse r n) ≤ most_days
few_days c r weeks fit n h = omega (arith, days_of_nurse-length c r n fit h)

-- besides what changes cost, in numbers 698,181,120, and 16,512,565 for each of 400 nurses: 7,303,207,120
penalty-besides : (c : Meaning) (r : Rows) → HasSmallNumbers c → shift_count c ≤ most_shifts → skill_count c ≤ most_skills → week_count c ≤ most_weeks → nurse_count c ≤ most_nurses → fits_case c r ≡ true → total_cost (costs_of c r) ≤ most_penalty_unkept + over_nurses c r (keep_cost c)
unfolding costs_of
penalty-besides c r small shifts skills weeks nurses fit =
    let few = few_days c r weeks fit in
    let working : ℕ → Days → ℕ = λ n days. working_run_cost c n days + shift_run_cost c n days in
    let together = both_rules c r working (free_run_cost c) in
    let runs = over_nurses-within c r (λ n days. working n days + free_run_cost c n days) (most_working_and_free + most_shift) (λ n days d. omega (arith, both_run_costs-within c n days small d, shift_run_cost-within c n days small d)) few in
    let off_requests = over_nurses-within c r (off_request_cost c) most_off_requests (λ n days d. off_request_cost-within c n days small d) few in
    let splits = over_nurses-within c r (split_cost c) most_split (λ n days d. split_cost-within c n days small d) few in
    let total = over_nurses-within c r (totals_cost c) most_totals (λ n days d. totals_cost-within c n days small d) few in
    let weekends = over_nurses-within c r (weekends_cost c) most_weekends (λ n days d. weekends_cost-within c n days small d) few in
    let wishes = over_nurses-within c r (wish_cost c) most_wishes (λ n days d. wish_cost-within c n days small d) few in
    omega (arith, staffing_cost-within c r small shifts skills (omega arith), together, runs, off_requests, splits, total, weekends, wishes)

-- with them 16,548,965 for each nurse: 7,317,767,120
pub penalty-at_most : (c : Meaning) (r : Rows) → HasSmallNumbers c → shift_count c ≤ most_shifts → skill_count c ≤ most_skills → week_count c ≤ most_weeks → nurse_count c ≤ most_nurses → fits_case c r ≡ true → total_cost (costs_of c r) ≤ most_penalty
penalty-at_most c r small shifts skills weeks nurses fit =
    let kept = over_nurses-within c r (keep_cost c) most_kept (λ n days d. keep_cost-within c n days small d) (few_days c r weeks fit) in
    omega (arith, penalty-besides c r small shifts skills weeks nurses fit, kept)

-- without a roster that is kept
pub penalty-unkept : (c : Meaning) (r : Rows) → HasSmallNumbers c → shift_count c ≤ most_shifts → skill_count c ≤ most_skills → week_count c ≤ most_weeks → nurse_count c ≤ most_nurses → c.keep ≡ 0 → fits_case c r ≡ true → total_cost (costs_of c r) ≤ most_penalty_unkept
penalty-unkept c r small shifts skills weeks nurses none fit =
    let kept = over_nurses-within c r (keep_cost c) 0 (λ n days d. no_keep_cost c n days small d none) (few_days c r weeks fit) in
    omega (arith, penalty-besides c r small shifts skills weeks nurses fit, kept)

pub penalty-within : (c : Meaning) (r : Rows) → HasSmallNumbers c → shift_count c ≤ most_shifts → skill_count c ≤ most_skills → week_count c ≤ most_weeks → nurse_count c ≤ most_nurses → fits_case c r ≡ true → total_cost (costs_of c r) < penalty_limit
penalty-within c r small shifts skills weeks nurses fit = omega (arith, penalty-at_most c r small shifts skills weeks nurses fit)
