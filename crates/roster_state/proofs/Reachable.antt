-- The states that a row leads to.
use Rattle.std.proofs.Common.{◌≡◌, ◌∙◌, ◌+◌, ◌<◌, ◌≤◌, ◌⊎◌, ◌&&◌, ◌||◌, ◌==◌, ℕ, Bool, true, false, inl, inr, arith, subst, [], min, nat_le, if◌then◌else◌, Option, Some, None, is_some}
use Rattle.std.proofs.Math.Bool.{or-true}
use Rattle.std.proofs.lemmas.Bool.{and_parts, cases_lt, le-leb, leb-true, lt-leb}
use Rattle.roster_instance.specs.declared.rules.Border.{Border}
use Rattle.roster_instance.specs.declared.rules.Border.TheVariants.{Free, Working}
use Rattle.roster_instance.specs.declared.choice.Shift.{Shift}
use Rattle.roster_instance.specs.Days.{has_shift, is_off, is_shift, works}
use Rattle.roster_instance.specs.Meaning.{Meaning, contract_of, last_shift, past_of, run_of_shift}
use Rattle.roster_rules.specs.Penalties.{free_before, shift_run_before, worked_before}
use Rattle.roster_rules.specs.Prefix.{Summary, summary_of}
use Rattle.roster_rules.specs.Runs.{open_run}
use Rattle.roster_instance.specs.Sizes.{cap}
use Rattle.roster_state.specs.Reachable.{can_be, can_be_with, excess}
use Rattle.roster_state.specs.Transition.{next_of, run_with, shift_run_with}

module _ (c : Meaning) (n more : ℕ) where
  abbrev work : ℕ
  work = cap (contract_of c n).working

  can_rest : (run : ℕ) → run ≤ cap (contract_of c n).free → can_be_with c n more run 0 None ≡ true
  can_rest run in_cap = λ i. le-leb run (cap (contract_of c n).free) in_cap i && true

  can_work : (run shift_run : ℕ) (t : Shift) → run ≤ work → shift_run ≤ cap (run_of_shift c t.0) → (run < work → shift_run ≤ run + more) → can_be_with c n more run shift_run (Some t) ≡ true
  can_work run shift_run t in_cap in_shift longer = λ i. le-leb run work in_cap i && le-leb shift_run (cap (run_of_shift c t.0)) in_shift i && either (cases_lt run work) i
    where
      either : (run < work) ⊎ (work ≤ run) → (nat_le work run || nat_le shift_run (run + more)) ≡ true
      either (inl below) = (λ i. nat_le work run || le-leb shift_run (run + more) (longer below) i) ∙ or-true (nat_le work run)
      either (inr full) = λ i. le-leb work run full i || nat_le shift_run (run + more)

  -- the run of a shift that may go on, if the working days are not at their cap
  opened : (run shift_run : ℕ) (last : Option Shift) (t : ℕ) → can_be_with c n more run shift_run last ≡ true → (if is_some last then run else 0) < work → (if is_shift t last then shift_run else 0) ≤ (if is_some last then run else 0) + more
  opened run shift_run None t now below = omega arith
  opened run shift_run (Some u) t now below = go (is_shift t (Some u))
    where
      disjunction : (nat_le work run || nat_le shift_run (run + more)) ≡ true
      disjunction = (and_parts (nat_le run work && nat_le shift_run (cap (run_of_shift c u.0))) (nat_le work run || nat_le shift_run (run + more)) now).1

      within : shift_run ≤ run + more
      within = leb-true shift_run (run + more) (subst (λ b. (b || nat_le shift_run (run + more)) ≡ true) (lt-leb work run below) disjunction)

      go : (b : Bool) → (if b then shift_run else 0) ≤ run + more
      go true = within
      go false = omega arith

module _ (c : Meaning) (n : ℕ) where
  pub next_can_be : (day : ℕ) (s : Summary) (shift : Option Shift) → can_be c n s ≡ true → can_be c n (next_of c n day s shift) ≡ true
  unfolding next_of
  next_can_be day s None now = can_rest c n (excess (past_of c n).border) (run_with c n s None) (omega arith)
  next_can_be day s (Some t) now =
      can_work c n (excess (past_of c n).border) (run_with c n s (Some t)) (shift_run_with c s (Some t)) t (omega arith) (omega arith)
      (λ below. omega (arith, below, opened c n (excess (past_of c n).border) s.run s.shift_run s.last t.0 now (omega (arith, below))))

  -- the two runs on no days, by the border
  abbrev run_at : Border → Option Shift → ℕ
  run_at b None = min (open_run (free_before b) (is_off []) 0) (cap (contract_of c n).free)
  run_at b (Some t) = min (open_run (worked_before b) (works []) 0) (cap (contract_of c n).working)

  abbrev shift_run_at : Border → Option Shift → ℕ
  shift_run_at b None = 0
  shift_run_at b (Some t) = min (open_run (shift_run_before t.0 b) (has_shift t.0 []) 0) (cap (run_of_shift c t.0))

  at_border : (b : Border) → can_be_with c n (excess b) (run_at b (last_shift b)) (shift_run_at b (last_shift b)) (last_shift b) ≡ true
  unfolding open_run
  at_border (Free run) = can_rest c n (excess (Free run)) (min run (cap (contract_of c n).free)) (omega arith)
  at_border (Working t own all) =
      let own_is = small (t.0 == t.0) own in
      can_work c n (excess (Working t own all)) (min all (cap (contract_of c n).working)) (min (if t.0 == t.0 then own else 0) (cap (run_of_shift c t.0))) t (omega arith) (omega arith) (λ below. omega (arith, below, own_is))
    where
      small : (b : Bool) (k : ℕ) → (if b then k else 0) ≤ k
      small true k = omega arith
      small false k = omega arith

  pub start_can_be : can_be c n (summary_of c n []) ≡ true
  unfolding summary_of
  start_can_be = at_border (past_of c n).border
