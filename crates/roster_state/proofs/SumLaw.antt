-- The sum law: a transition from the summary of some days leads to the summary of those days and one more,
-- and costs the increase of what is owed; the end adds the missing assignments.
use Rattle.std.proofs.Common.{◌≡◌, ◌⊎◌, refl, sym, ap, ◌∙◌, arith, ℕ, zero, suc, ◌+◌, ◌-◌, ◌*◌, ◌<◌, ◌≤◌, Bool, true, false, not, min, ◌&&◌, nat_le, mul-add, [], ◌∷◌, ◌++◌, length, if◌then◌else◌, Option, Some, None, is_some, inl, inr}
use Rattle.std.proofs.lemmas.Bool.{cases_lt, eq-eqb, le-leb, lt-leb, ne_eqb}
use Rattle.roster_instance.specs.declared.choice.Shift.{Shift}
use Rattle.roster_instance.specs.declared.rules.Limits.{Limits}
use Rattle.roster_instance.specs.Counting.{one_if}
use Rattle.roster_rules.specs.DayLaw.{is_saturday, is_sunday, splits_more, weekends_more}
use Rattle.roster_instance.specs.Days.{Days, shift_on, is_shift, works, worked_weekends, split_weekends}
use Rattle.roster_rules.specs.HardRules.{shift_before}
use Rattle.roster_instance.specs.Meaning.{Meaning, contract_of, last_shift, past_of, run_of_shift, shift_count}
use Rattle.roster_rules.specs.Penalties.{extra_cost, free_before, free_run_cost, missing_cost, own_cost, run_cost_of_shift, shift_run_before, shift_run_cost, split_cost, total_of, weekends_cost, weekends_of, worked_before, working_run_cost}
use Rattle.roster_rules.specs.Prefix.{Summary, due, last_of, last_run_of, shift_run_of, summary_of}
use Rattle.roster_instance.specs.Sizes.{cap}
use Rattle.roster_instance.specs.RunLaw.{day_violations}
use Rattle.roster_rules.specs.Weights.{assignment_weight, split_weight, weekend_weight}
use Rattle.roster_rules.proofs.DayMore.{length_more, shift_of_it}
use Rattle.roster_rules.proofs.RowLaw.{row_grown, row_violations}
use Rattle.roster_rules.proofs.RunBounds.{sum_both}
use Rattle.roster_rules.proofs.RunSums.{sum_same}
use Rattle.roster_rules.proofs.WeekendLaw.{splits_grow, weekends_grow, worked_grow}
use Rattle.roster_state.specs.Transition.{end_cost_of, free_more, next_of, run_with, shift_more, shift_run_with, shifts_more, split_more, transition_cost, total_more, weekend_more, working_more}
use Rattle.roster_state.proofs.OpenRuns.{capped, free_is, longer, open_free, open_shift, open_working, shift_is, working_is}

-- ---- the day before: day 0 is no day of a weekend, so the history doesn't matter

on_day : (last : Option Shift) (days : Days) (d : ℕ) → shift_before last days (suc d) ≡ shift_on days (suc d - 1)
on_day last days d = rw (ne_eqb (suc d) 0 (λ e. omega arith))

weekends_before : (last : Option Shift) (days : Days) (d : ℕ) (now : Bool) → weekends_more d (works days (d - 1)) now ≡ weekends_more d (is_some (shift_before last days d)) now
weekends_before last days zero now = refl
weekends_before last days (suc d) now = ap (λ (o : Option Shift). weekends_more (suc d) (is_some o) now) (sym (on_day last days d))

splits_before : (last : Option Shift) (days : Days) (d : ℕ) (now : Bool) → splits_more d (works days (d - 1)) now ≡ splits_more d (is_some (shift_before last days d)) now
splits_before last days zero now = refl
splits_before last days (suc d) now = ap (λ (o : Option Shift). splits_more (suc d) (is_some o) now) (sym (on_day last days d))

-- ---- the next summary

module _ (c : Meaning) (n : ℕ) (days : Days) (shift : Option Shift) where
  last_more : last_of c n (days ++ shift ∷ []) ≡ shift
  last_more =
      ap (shift_before (last_shift (past_of c n).border) (days ++ shift ∷ [])) (length_more days shift)
      ∙ (on_day (last_shift (past_of c n).border) (days ++ shift ∷ []) (length days)
      ∙ (ap (shift_on (days ++ shift ∷ [])) (omega arith)
      ∙ shift_of_it days shift))

  weekends_rise : worked_weekends (days ++ shift ∷ []) ≡ worked_weekends days + weekends_more (length days) (is_some (last_of c n days)) (is_some shift)
  weekends_rise = omega (arith, weekends_grow days shift, weekends_before (last_shift (past_of c n).border) days (length days) (is_some shift))

  splits_rise : split_weekends (days ++ shift ∷ []) ≡ split_weekends days + splits_more (length days) (is_some (last_of c n days)) (is_some shift)
  splits_rise = omega (arith, splits_grow days shift, splits_before (last_shift (past_of c n).border) days (length days) (is_some shift))

run_next : (c : Meaning) (n : ℕ) (days : Days) (shift : Option Shift) → run_with c n (summary_of c n days) shift ≡ last_run_of c n (days ++ shift ∷ []) shift
run_next c n days None =
    let m : ℕ = cap (contract_of c n).free in
    longer _ (open_free c n days) m (free_is c n days) ∙ ap (λ x. min x m) (sym (row_grown (free_before (past_of c n).border) (λ o. not (is_some o)) days None))
run_next c n days (Some t) =
    let m : ℕ = cap (contract_of c n).working in
    longer _ (open_working c n days) m (working_is c n days) ∙ ap (λ x. min x m) (sym (row_grown (worked_before (past_of c n).border) is_some days (Some t)))

counts_where : (q : Bool) (x : ℕ) → q ≡ true → x ≡ (if q then x else 0)
counts_where q x e = rw e

shift_run_next : (c : Meaning) (n : ℕ) (days : Days) (shift : Option Shift) → shift_run_with c (summary_of c n days) shift ≡ shift_run_of c n (days ++ shift ∷ []) shift
shift_run_next c n days None = refl
shift_run_next c n days (Some t) =
    let m : ℕ = cap (run_of_shift c t.0) in
    let on : open_shift c n days t.0 + 1 ≡ open_shift c n (days ++ Some t ∷ []) t.0 =
    counts_where (is_shift t.0 (Some t)) (open_shift c n days t.0 + 1) (eq-eqb t.0 t.0 refl) ∙ sym (row_grown (shift_run_before t.0 (past_of c n).border) (is_shift t.0) days (Some t)) in
    longer _ (open_shift c n days t.0) m (shift_is c n days t.0) ∙ ap (λ x. min x m) on

pub next_is : (c : Meaning) (n : ℕ) (days : Days) (shift : Option Shift) → next_of c n (length days) (summary_of c n days) shift ≡ summary_of c n (days ++ shift ∷ [])
unfolding next_of summary_of
next_is c n days shift =
    let here : Option Shift = last_of c n (days ++ shift ∷ []) in
    let last : shift ≡ here = sym (last_more c n days shift) in
    let run : run_with c n (summary_of c n days) shift ≡ last_run_of c n (days ++ shift ∷ []) here = run_next c n days shift ∙ ap (last_run_of c n (days ++ shift ∷ [])) last in
    let shift_run : shift_run_with c (summary_of c n days) shift ≡ shift_run_of c n (days ++ shift ∷ []) here = shift_run_next c n days shift ∙ ap (shift_run_of c n (days ++ shift ∷ [])) last in
    let assignments : min (min (total_of c n days) (cap (contract_of c n).total) + one_if (is_some shift)) (cap (contract_of c n).total) ≡ min (total_of c n (days ++ shift ∷ [])) (cap (contract_of c n).total) =
    omega (arith, worked_grow days shift) in
    let weekends : min (min (weekends_of c n days) (contract_of c n).weekends + weekends_more (length days) (is_some (last_of c n days)) (is_some shift)) (contract_of c n).weekends ≡ min (weekends_of c n (days ++ shift ∷ [])) (contract_of c n).weekends =
    omega (arith, weekends_rise c n days shift) in
    λ i. record { last = last i; run = run i; shift_run = shift_run i; assignments = assignments i; weekends = weekends i }

-- ---- the increase of what is owed

module _ (c : Meaning) (n : ℕ) (days : Days) (shift : Option Shift) where
  working_rise : working_run_cost c n (days ++ shift ∷ []) ≡ working_run_cost c n days + working_more c n (summary_of c n days) shift
  working_rise =
      let l : Limits = (contract_of c n).working in
      let violations = row_violations l (worked_before (past_of c n).border) is_some days shift in
      let day = ap (λ x. day_violations l x (is_some shift)) (working_is c n days) ∙ capped l (open_working c n days) (is_some shift) in
      omega (arith, violations, day)

  free_rise : free_run_cost c n (days ++ shift ∷ []) ≡ free_run_cost c n days + free_more c n (summary_of c n days) shift
  free_rise =
      let l : Limits = (contract_of c n).free in
      let violations = row_violations l (free_before (past_of c n).border) (λ o. not (is_some o)) days shift in
      let day = ap (λ x. day_violations l x (not (is_some shift))) (free_is c n days) ∙ capped l (open_free c n days) (not (is_some shift)) in
      omega (arith, violations, day)

  shift_rise : (t : ℕ) → run_cost_of_shift c n (days ++ shift ∷ []) t ≡ run_cost_of_shift c n days t + shift_more c (summary_of c n days) shift t
  shift_rise t =
      let l : Limits = run_of_shift c t in
      let violations = row_violations l (shift_run_before t (past_of c n).border) (is_shift t) days shift in
      let day = ap (λ x. day_violations l x (is_shift t shift)) (shift_is c n days t) ∙ capped l (open_shift c n days t) (is_shift t shift) in
      omega (arith, violations, day)

  shifts_rise : shift_run_cost c n (days ++ shift ∷ []) ≡ shift_run_cost c n days + shifts_more c (summary_of c n days) shift
  shifts_rise =
      sum_same (shift_count c) (run_cost_of_shift c n (days ++ shift ∷ [])) (λ t. run_cost_of_shift c n days t + shift_more c (summary_of c n days) shift t) (λ t h. shift_rise t)
      ∙ sum_both (shift_count c) (run_cost_of_shift c n days) (shift_more c (summary_of c n days) shift)

  -- if the contract wants whole weekends
  split_by : (q : Bool) → (if q then split_weight * split_weekends (days ++ shift ∷ []) else 0) ≡ (if q then split_weight * split_weekends days else 0) + (if q then split_weight * splits_more (length days) (is_some (last_of c n days)) (is_some shift) else 0)
  split_by true = omega (arith, splits_rise c n days shift)
  split_by false = refl

  split_rise : split_cost c n (days ++ shift ∷ []) ≡ split_cost c n days + split_more c n (length days) (summary_of c n days) shift
  unfolding summary_of
  split_rise = split_by (contract_of c n).whole_weekends

-- what is added to a number counts above its greatest value g if the number, up to a cap, has reached g
above : (k g m t x : ℕ) → g ≤ m → (t < g) ⊎ (g ≤ t) → x ≤ 1 → k * ((t + x) - g) ≡ k * (t - g) + (if nat_le g (min t m) then k * x else 0)
above k g m t x h (inr l) one =
    let e : (t + x) - g ≡ (t - g) + x = omega arith in
    rw (le-leb g (min t m) (omega arith), e) (mul-add k (t - g) x)
above k g m t x h (inl l) one =
    let e : (t + x) - g ≡ 0 = omega arith in
    let f : t - g ≡ 0 = omega arith in
    rw (lt-leb g (min t m) (omega arith), e, f) (omega arith)

pub one_at_most : (q : Bool) → one_if q ≤ 1
one_at_most true = omega arith
one_at_most false = omega arith

pub weekends_at_most : (s t b x : Bool) → (if s then one_if x else if t then one_if (not b && x) else 0) ≤ 1
weekends_at_most true t b x = one_at_most x
weekends_at_most false true b x = one_at_most (not b && x)
weekends_at_most false false b x = omega arith

module _ (c : Meaning) (n : ℕ) (days : Days) (shift : Option Shift) where
  total_rise : extra_cost c n (total_of c n (days ++ shift ∷ [])) ≡ extra_cost c n (total_of c n days) + total_more c n (summary_of c n days) shift
  unfolding summary_of
  total_rise =
      let l : Limits = (contract_of c n).total in
      let more : total_of c n (days ++ shift ∷ []) ≡ total_of c n days + one_if (is_some shift) = omega (arith, worked_grow days shift) in
      ap (λ t. extra_cost c n t) more ∙ above assignment_weight l.greatest (cap l) (total_of c n days) (one_if (is_some shift)) (omega arith) (cases_lt (total_of c n days) l.greatest) (one_at_most (is_some shift))

  weekend_rise : weekends_cost c n (days ++ shift ∷ []) ≡ weekends_cost c n days + weekend_more c n (length days) (summary_of c n days) shift
  unfolding summary_of
  weekend_rise =
      let m : ℕ = (contract_of c n).weekends in
      let x : ℕ = weekends_more (length days) (is_some (last_of c n days)) (is_some shift) in
      let more : weekends_of c n (days ++ shift ∷ []) ≡ weekends_of c n days + x = omega (arith, weekends_rise c n days shift) in
      ap (λ t. weekend_weight * (t - m)) more
      ∙ above weekend_weight m m (weekends_of c n days) x (omega arith) (cases_lt (weekends_of c n days) m) (weekends_at_most (is_saturday (length days)) (is_sunday (length days)) (is_some (last_of c n days)) (is_some shift))

  pub owed_more : due c n (days ++ shift ∷ []) ≡ due c n days + transition_cost c n (length days) (summary_of c n days) shift
  unfolding due transition_cost
  owed_more =
      omega (arith, working_rise c n days shift, free_rise c n days shift, shifts_rise c n days shift, split_rise c n days shift, total_rise, weekend_rise)

-- ---- the end

pub closes : (c : Meaning) (n : ℕ) (days : Days) → own_cost c n days ≡ due c n days + end_cost_of c n (summary_of c n days)
unfolding own_cost due summary_of
closes c n days =
    let e : missing_cost c n (min (total_of c n days) (cap (contract_of c n).total)) ≡ missing_cost c n (total_of c n days) = omega arith in
    omega (arith, e)

-- ---- of any state that is the summary of some days

module _ (c : Meaning) (n : ℕ) (s : Summary) (days : Days) (is : s ≡ summary_of c n days) where
  pub transition_leads : (day : ℕ) (shift : Option Shift) (next : Summary) → length days ≡ day → next ≡ next_of c n day s shift → next ≡ summary_of c n (days ++ shift ∷ [])
  transition_leads day shift next at e = rw (e, ← at, is) (next_is c n days shift)

  pub transition_owes : (day : ℕ) (shift : Option Shift) (cost : ℕ) → length days ≡ day → cost ≡ transition_cost c n day s shift → due c n (days ++ shift ∷ []) ≡ due c n days + cost
  transition_owes day shift cost at e = rw (e, ← at, is) (owed_more c n days shift)

  pub end_closes : (cost : ℕ) → cost ≡ end_cost_of c n s → own_cost c n days ≡ due c n days + cost
  end_closes cost e = rw (e, is) (closes c n days)
