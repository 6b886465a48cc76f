-- A transition costs little, since the numbers of an instance are small: one run of working days or of days
-- off ends and the other begins, the run of one shift ends and that of another goes on, and the rest counts
-- at most once.
use Rattle.std.proofs.Common.{refl, arith, ℕ, ◌+◌, ◌-◌, ◌*◌, ◌≤◌, Bool, true, false, not, max, nat_le, nat_lt, if◌then◌else◌, Option, Some, None, is_some}
use Rattle.roster_instance.specs.declared.choice.Shift.{Shift}
use Rattle.roster_instance.specs.declared.rules.Limits.{Limits}
use Rattle.roster_instance.specs.Counting.{one_if, sum_below}
use Rattle.roster_rules.specs.DayLaw.{is_saturday, is_sunday, splits_more, weekends_more}
use Rattle.roster_instance.specs.Days.{is_shift, one_alone}
use Rattle.roster_instance.specs.Limits.{most_small}
use Rattle.roster_instance.specs.Meaning.{Meaning, contract_of, run_of_shift, shift_count}
use Rattle.roster_rules.specs.Prefix.{Summary}
use Rattle.roster_instance.specs.RunLaw.{day_violations}
use Rattle.roster_instance.specs.Small.{AreSmall, HasSmallNumbers}
use Rattle.roster_rules.specs.Weights.{working_run_weight, shift_run_weight, free_run_weight, split_weight, assignment_weight, weekend_weight}
use Rattle.roster_rules.proofs.RunBounds.{sum_both, sum_compared, sum_of_one, where_within}
use Rattle.roster_rules.proofs.RunSums.{sum_zero}
use Rattle.roster_state.specs.MostCosts.{most_of_transition}
use Rattle.roster_state.specs.Transition.{free_more, shift_more, shifts_more, split_more, transition_cost, total_more, weekend_more, working_more}
use Rattle.roster_state.proofs.SumLaw.{one_at_most, weekends_at_most}

-- ---- a run

-- one that goes on has at most one more extra day, and one that ends misses at most its least
goes_on : (l : Limits) (run : ℕ) → day_violations l run true ≤ 1
goes_on l run = one_at_most (nat_lt l.greatest (run + 1))

ends : (l : Limits) (run : ℕ) → AreSmall l → day_violations l run false ≤ most_small
ends l run small = where_within (nat_lt 0 run) (l.least - run) most_small (omega (arith, small.least))

abbrev most_of_runs : ℕ
most_of_runs = max working_run_weight free_run_weight * (most_small + 1)

-- where w and f are the limits of working days and of days off
two_runs : (w f : Limits) (run : ℕ) (works before : Bool) → AreSmall w → AreSmall f → working_run_weight * day_violations w (if before then run else 0) works + free_run_weight * day_violations f (if before then 0 else run) (not works) ≤ most_of_runs
two_runs w f run true true small_w small_f = omega (arith, goes_on w run)
two_runs w f run true false small_w small_f = omega (arith, goes_on w 0, ends f run small_f)
two_runs w f run false true small_w small_f = omega (arith, ends w run small_w, goes_on f 0)
two_runs w f run false false small_w small_f = omega (arith, goes_on f run)

-- ---- the shifts

one_shift : (l : Limits) (run : ℕ) (last now : Bool) → AreSmall l → shift_run_weight * day_violations l (if last then run else 0) now ≤ (if last then shift_run_weight * most_small else 0) + (if now then shift_run_weight else 0)
one_shift l run true true small = omega (arith, goes_on l run)
one_shift l run true false small = omega (arith, ends l run small)
one_shift l run false true small = omega (arith, goes_on l 0)
one_shift l run false false small = omega arith

sum_where_shift : (n m : ℕ) (o : Option Shift) → sum_below n (λ t. if is_shift t o then m else 0) ≤ m
sum_where_shift n m None = omega (arith, sum_zero n (λ t. 0) (λ t h. refl))
sum_where_shift n m (Some s) = sum_of_one n s.0 m

-- ---- all summands

splits_at_most : (t b x : Bool) → (if t then one_if (one_alone b x) else 0) ≤ 1
splits_at_most true b x = one_at_most (one_alone b x)
splits_at_most false b x = omega arith

module _ (c : Meaning) (n : ℕ) (s : Summary) (shift : Option Shift) where
  pub runs_more_within : HasSmallNumbers c → working_more c n s shift + free_more c n s shift ≤ most_of_runs
  runs_more_within small = two_runs (contract_of c n).working (contract_of c n).free s.run (is_some shift) (is_some s.last) (small.contracts n).working (small.contracts n).free

  pub shifts_more_within : HasSmallNumbers c → shifts_more c s shift ≤ shift_run_weight * (most_small + 1)
  shifts_more_within small =
      let was : ℕ → ℕ = λ t. if is_shift t s.last then shift_run_weight * most_small else 0 in
      let is : ℕ → ℕ = λ t. if is_shift t shift then shift_run_weight else 0 in
      let each : shifts_more c s shift ≤ sum_below (shift_count c) (λ t. was t + is t) =
      sum_compared (shift_count c) (shift_more c s shift) (λ t. was t + is t) (λ t. one_shift (run_of_shift c t) s.shift_run (is_shift t s.last) (is_shift t shift) (small.runs t)) in
      omega (arith, each, sum_both (shift_count c) was is, sum_where_shift (shift_count c) (shift_run_weight * most_small) s.last, sum_where_shift (shift_count c) shift_run_weight shift)

  pub total_more_within : total_more c n s shift ≤ assignment_weight
  total_more_within = where_within (nat_le (contract_of c n).total.greatest s.assignments) (assignment_weight * one_if (is_some shift)) assignment_weight (omega (arith, one_at_most (is_some shift)))

  pub split_more_within : (day : ℕ) → split_more c n day s shift ≤ split_weight
  split_more_within day =
      where_within (contract_of c n).whole_weekends (split_weight * splits_more day (is_some s.last) (is_some shift)) split_weight (omega (arith, splits_at_most (is_sunday day) (is_some s.last) (is_some shift)))

  pub weekend_more_within : (day : ℕ) → weekend_more c n day s shift ≤ weekend_weight
  weekend_more_within day =
      where_within (nat_le (contract_of c n).weekends s.weekends) (weekend_weight * weekends_more day (is_some s.last) (is_some shift)) weekend_weight (omega (arith, weekends_at_most (is_saturday day) (is_sunday day) (is_some s.last) (is_some shift)))

pub transition_within : (c : Meaning) (n day : ℕ) (s : Summary) (shift : Option Shift) → HasSmallNumbers c → transition_cost c n day s shift ≤ most_of_transition
unfolding transition_cost
transition_within c n day s shift small =
    omega (arith, runs_more_within c n s shift small, shifts_more_within c n s shift small, split_more_within c n s shift day, total_more_within c n s shift, weekend_more_within c n s shift day)
