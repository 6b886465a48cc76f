-- What a worked shift costs in addition to what a worked day costs whatever the shift.
use Rattle.std.proofs.Common.{◌≡◌, ◌≢◌, ◌∙◌, ◌-◌, ap, arith, nat_lt, subst, sym, ℕ, ◌+◌, ◌*◌, ◌<◌, ◌≤◌, refl, true, min, IfSome, Option, Some, None}
use Rattle.std.proofs.lemmas.Bool.{eq-eqb, ne_eqb}
use Rattle.roster_instance.specs.declared.choice.Shift.{Shift}
use Rattle.roster_instance.specs.declared.rules.Limits.{Limits}
use Rattle.roster_instance.specs.Meaning.{Meaning, run_of_shift, shift_count}
use Rattle.roster_instance.specs.RunLaw.{day_violations}
use Rattle.roster_rules.specs.Prefix.{Summary}
use Rattle.roster_rules.specs.Weights.{shift_run_weight}
use Rattle.roster_instance.specs.Sizes.{cap}
use Rattle.roster_state.specs.declared.worked.WorkedDay.{WorkedDay}
use Rattle.roster_state.specs.MostCosts.{most_of_transition}
use Rattle.roster_state.specs.Transition.{ended, next_of, open_shift_run, shifts_more, transition_cost, worked}
use Rattle.roster_state.specs.Worked.{IsWorkedDay}
use Rattle.roster_state.proofs.TransitionBounds.{runs_more_within, shifts_more_within, split_more_within, total_more_within, weekend_more_within}
use Rattle.roster_instance.specs.Limits.{most_small}
use Rattle.roster_instance.specs.Small.{HasSmallNumbers}
use Rattle.roster_rules.proofs.RunBounds.{where_within}
use Rattle.roster_state.proofs.ShiftLaw.{shifts_by_two}

abbrev both : (ℕ → Limits) → Option Shift → ℕ → Shift → ℕ
both runs last run u = shift_run_weight * ended runs last run (Some u) + shift_run_weight * worked runs last run (Some u)

both_on : (runs : ℕ → Limits) (t u : Shift) (run : ℕ) → t.0 ≡ u.0 → both runs (Some t) run u ≡ shift_run_weight * day_violations (runs u.0) run true
both_on runs t u run e = rw (eq-eqb t.0 u.0 e, eq-eqb u.0 t.0 (sym e)) omega arith

both_off : (runs : ℕ → Limits) (t u : Shift) (run : ℕ) → t.0 ≢ u.0 → both runs (Some t) run u ≡ shift_run_weight * ended runs (Some t) run None + shift_run_weight * day_violations (runs u.0) 0 true
both_off runs t u run e = rw (ne_eqb t.0 u.0 e, ne_eqb u.0 t.0 (λ i. e (sym i))) refl

-- the shift of the last day goes on
pub shift_goes_on : (c : Meaning) (s : Summary) (t u : Shift) → s.last ≡ Some t → t.0 ≡ u.0 → IfSome s.last (λ t. t.0 < shift_count c) → u.0 < shift_count c → shifts_more c s (Some u) ≡ shift_run_weight * day_violations (run_of_shift c u.0) s.shift_run true
shift_goes_on c s t u is e last given =
    shifts_by_two c s (Some u) last given ∙ ap (λ o. both (run_of_shift c) o s.shift_run u) is ∙ both_on (run_of_shift c) t u s.shift_run e

-- or it ends, and another one begins
pub shift_begins : (c : Meaning) (s : Summary) (t u : Shift) → s.last ≡ Some t → t.0 ≢ u.0 → IfSome s.last (λ t. t.0 < shift_count c) → u.0 < shift_count c → shifts_more c s (Some u) ≡ shift_run_weight * ended (run_of_shift c) s.last s.shift_run None + shift_run_weight * day_violations (run_of_shift c u.0) 0 true
shift_begins c s t u is e last given =
    shifts_by_two c s (Some u) last given ∙ ap (λ o. both (run_of_shift c) o s.shift_run u) is ∙ both_off (run_of_shift c) t u s.shift_run e
    ∙ ap (λ o. shift_run_weight * ended (run_of_shift c) o s.shift_run None + shift_run_weight * day_violations (run_of_shift c u.0) 0 true) (sym is)

-- or one begins after a day off
pub shift_enters : (c : Meaning) (s : Summary) (u : Shift) → s.last ≡ None → u.0 < shift_count c → shifts_more c s (Some u) ≡ shift_run_weight * ended (run_of_shift c) s.last s.shift_run None + shift_run_weight * day_violations (run_of_shift c u.0) 0 true
shift_enters c s u is given =
    let last : IfSome s.last (λ t. t.0 < shift_count c) = subst (λ (o : Option Shift). IfSome o (λ t. t.0 < shift_count c)) (sym is) tt in
    shifts_by_two c s (Some u) last given ∙ ap (λ o. both (run_of_shift c) o s.shift_run u) is
    ∙ ap (λ o. shift_run_weight * ended (run_of_shift c) o s.shift_run None + shift_run_weight * day_violations (run_of_shift c u.0) 0 true) (sym is)

-- a run that ends misses little
pub left_within : (c : Meaning) (last : Option Shift) (run : ℕ) → HasSmallNumbers c → ended (run_of_shift c) last run None ≤ most_small
left_within c None run small = omega arith
left_within c (Some t) run small = where_within (nat_lt 0 run) ((run_of_shift c t.0).least - run) most_small (omega (arith, (small.runs t.0).least))

-- ---- a worked shift, by what a worked day brings

module _ (c : Meaning) (n day : ℕ) (s : Summary) (worked : WorkedDay) (is : IsWorkedDay c n day s worked) (u : Shift) where
  pub state_worked : (run : ℕ) → run ≡ min (open_shift_run s u.0 + 1) (cap (run_of_shift c u.0)) → record { last = Some u; run = worked.run; shift_run = run; assignments = worked.assignments; weekends = worked.weekends } ≡ next_of c n day s (Some u)
  unfolding next_of
  state_worked run shift_run = (λ i. record { last = Some u; run = is.run i; shift_run = shift_run i; assignments = is.assignments i; weekends = is.weekends i })

  pub cost_worked : (cost : ℕ) → cost ≡ shifts_more c s (Some u) → worked.cost + cost ≡ transition_cost c n day s (Some u)
  unfolding transition_cost
  cost_worked cost shifts = omega (arith, is.cost u, shifts)

  pub cost_within : HasSmallNumbers c → transition_cost c n day s (Some u) ≤ most_of_transition
  unfolding transition_cost
  cost_within small =
      omega (arith, runs_more_within c n s (Some u) small, shifts_more_within c n s (Some u) small, total_more_within c n s (Some u), split_more_within c n s (Some u) day, weekend_more_within c n s (Some u) day)

  pub left_small : HasSmallNumbers c → worked.left ≤ 65536 * shift_run_weight
  left_small small = omega (arith, is.left, left_within c s.last s.shift_run small)
