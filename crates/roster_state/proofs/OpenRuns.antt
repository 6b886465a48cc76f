-- The numbers of a summary are the runs that are open after its days, up to their caps: one for each kind of
-- days, and 0 if the last day isn't of the kind. A day costs as much after a run as after that number.
use Rattle.std.proofs.Common.{◌≡◌, ◌⊎◌, refl, sym, ap, ◌∙◌, arith, ℕ, zero, suc, ◌+◌, ◌-◌, ◌<◌, ◌≤◌, Bool, true, false, not, min, nat_lt, length, if◌then◌else◌, true≢false, Option, Some, None, is_some, inl, inr}
use Rattle.std.proofs.lemmas.Bool.{cases_lt, eqb-true, lt-ltb, le-ltb, ne_eqb}
use Rattle.roster_instance.specs.declared.choice.Shift.{Shift}
use Rattle.roster_instance.specs.declared.rules.Border.{Border}
use Rattle.roster_instance.specs.declared.rules.Border.TheVariants.{Free, Working}
use Rattle.roster_instance.specs.declared.rules.Limits.{Limits}
use Rattle.roster_instance.specs.Counting.{one_if}
use Rattle.roster_instance.specs.Days.{Days, shift_on, is_shift, works, is_off, has_shift}
use Rattle.roster_rules.specs.HardRules.{shift_before}
use Rattle.roster_instance.specs.Meaning.{Meaning, contract_of, last_shift, past_of, run_of_shift}
use Rattle.roster_rules.specs.Penalties.{free_before, worked_before, shift_run_before}
use Rattle.roster_rules.specs.Prefix.{last_of, last_run_of, shift_run_of, summary_of}
use Rattle.roster_instance.specs.Sizes.{cap}
use Rattle.roster_instance.specs.RunLaw.{day_violations}
use Rattle.roster_rules.specs.Runs.{open_run}
use Rattle.roster_rules.proofs.RunLaw.{border, grown}
use Rattle.roster_state.specs.Transition as transition

-- ---- caps

-- a day of the kind, and another
extra_same : (l : Limits) (run : ℕ) → (l.greatest < run + 1) ⊎ (run + 1 ≤ l.greatest) → one_if (nat_lt l.greatest (min run (cap l) + 1)) ≡ one_if (nat_lt l.greatest (run + 1))
extra_same l run (inl h) = rw (lt-ltb l.greatest (run + 1) h, lt-ltb l.greatest (min run (cap l) + 1) (omega arith))
extra_same l run (inr h) = rw (le-ltb l.greatest (run + 1) h, le-ltb l.greatest (min run (cap l) + 1) (omega arith))

missed_none : (x y : ℕ) (q : Bool) → x ≤ y → (if q then x - y else 0) ≡ 0
missed_none x y true h = omega arith
missed_none x y false h = refl

missed_same : (l : Limits) (run : ℕ) → (cap l < run) ⊎ (run ≤ cap l) → (if nat_lt 0 (min run (cap l)) then l.least - min run (cap l) else 0) ≡ (if nat_lt 0 run then l.least - run else 0)
missed_same l run (inl h) = missed_none l.least (min run (cap l)) (nat_lt 0 (min run (cap l))) (omega arith) ∙ sym (missed_none l.least run (nat_lt 0 run) (omega arith))
missed_same l run (inr h) =
    let e : min run (cap l) ≡ run = omega arith in
    rw e

pub capped : (l : Limits) (run : ℕ) (q : Bool) → day_violations l (min run (cap l)) q ≡ day_violations l run q
capped l run true = extra_same l run (cases_lt l.greatest (run + 1))
capped l run false = missed_same l run (cases_lt (cap l) run)

pub longer : (run x m : ℕ) → run ≡ min x m → min (run + 1) m ≡ min (x + 1) m
longer run x m e = omega (arith, e)

-- ---- no run of a kind is open if the last day isn't of it

closed_by : (q : Bool) (x : ℕ) → q ≡ false → (if q then x else 0) ≡ 0
closed_by q x e = rw e

closed : (b : ℕ) (t : Option Shift → Bool) (last : Option Shift) (days : Days) (d : ℕ) → (t last ≡ false → b ≡ 0) → t (shift_before last days d) ≡ false → open_run b (λ k. t (shift_on days k)) d ≡ 0
closed b t last days zero h e = border b (λ k. t (shift_on days k)) ∙ h e
closed b t last days (suc d) h e =
    let at : shift_before last days (suc d) ≡ shift_on days d = rw (ne_eqb (suc d) 0 (λ g. omega arith)) (ap (shift_on days) (omega arith)) in
    grown b (λ k. t (shift_on days k)) d ∙ closed_by (t (shift_on days d)) (open_run b (λ k. t (shift_on days k)) d + 1) (sym (ap t at) ∙ e)

worked_border : (b : Border) → is_some (last_shift b) ≡ false → worked_before b ≡ 0
worked_border (Free n) e = refl
worked_border (Working s own all) e = absurd (true≢false e)

free_border : (b : Border) → not (is_some (last_shift b)) ≡ false → free_before b ≡ 0
free_border (Free n) e = absurd (true≢false e)
free_border (Working s own all) e = refl

shift_border : (t : ℕ) (b : Border) → is_shift t (last_shift b) ≡ false → shift_run_before t b ≡ 0
shift_border t (Free n) e = refl
shift_border t (Working s own all) e = closed_by _ own e

-- ---- the numbers of a summary

module _ (c : Meaning) (n : ℕ) (days : Days) where
  abbrev pub open_working : ℕ
  open_working = open_run (worked_before (past_of c n).border) (works days) (length days)

  abbrev pub open_free : ℕ
  open_free = open_run (free_before (past_of c n).border) (is_off days) (length days)

  abbrev pub open_shift : ℕ → ℕ
  open_shift t = open_run (shift_run_before t (past_of c n).border) (has_shift t days) (length days)

  working_by : (last : Option Shift) → last_of c n days ≡ last → (if is_some last then last_run_of c n days last else 0) ≡ min open_working (cap (contract_of c n).working)
  working_by None e =
      let none : open_working ≡ 0 = closed (worked_before (past_of c n).border) is_some (last_shift (past_of c n).border) days (length days) (worked_border (past_of c n).border) (ap (λ (o : Option Shift). is_some o) e) in
      omega (arith, none)
  working_by (Some s) e = refl

  pub working_is : transition.working_run (summary_of c n days) ≡ min open_working (cap (contract_of c n).working)
  unfolding summary_of
  working_is = working_by (last_of c n days) refl

  free_by : (last : Option Shift) → last_of c n days ≡ last → (if is_some last then 0 else last_run_of c n days last) ≡ min open_free (cap (contract_of c n).free)
  free_by None e = refl
  free_by (Some s) e =
      let none : open_free ≡ 0 = closed (free_before (past_of c n).border) (λ o. not (is_some o)) (last_shift (past_of c n).border) days (length days) (free_border (past_of c n).border) (ap (λ (o : Option Shift). not (is_some o)) e) in
      omega (arith, none)

  pub free_is : transition.free_run (summary_of c n days) ≡ min open_free (cap (contract_of c n).free)
  unfolding summary_of
  free_is = free_by (last_of c n days) refl

  shift_closed : (t : ℕ) → is_shift t (last_of c n days) ≡ false → open_shift t ≡ 0
  shift_closed t e = closed (shift_run_before t (past_of c n).border) (is_shift t) (last_shift (past_of c n).border) days (length days) (shift_border t (past_of c n).border) e

  shift_by : (t : ℕ) (last : Option Shift) (q : Bool) → is_shift t last ≡ q → last_of c n days ≡ last → (if q then shift_run_of c n days last else 0) ≡ min (open_shift t) (cap (run_of_shift c t))
  shift_by t None true i e = absurd (true≢false (sym i))
  shift_by t (Some s) true i e = ap (λ u. min (open_shift u) (cap (run_of_shift c u))) (eqb-true s.0 t i)
  shift_by t last false i e = omega (arith, shift_closed t (ap (is_shift t) e ∙ i))

  pub shift_is : (t : ℕ) → transition.open_shift_run (summary_of c n days) t ≡ min (open_shift t) (cap (run_of_shift c t))
  unfolding summary_of
  shift_is t = shift_by t (last_of c n days) (is_shift t (last_of c n days)) refl refl
