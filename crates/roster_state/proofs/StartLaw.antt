-- The start of the sum law: what is owed on no days, and their summary.
use Rattle.std.proofs.Common.{◌≡◌, ◌∙◌, ap, refl, sym, arith, ℕ, ◌+◌, ◌-◌, ◌*◌, ◌==◌, Bool, T, true, false, [], if◌then◌else◌, min, Option, Some, None}
use Rattle.std.proofs.Math.Dec.{eqb_refl}
use Rattle.roster_instance.specs.declared.rules.Border.{Border}
use Rattle.roster_instance.specs.declared.rules.Border.TheVariants.{Free, Working}
use Rattle.roster_instance.specs.declared.choice.Shift.{Shift}
use Rattle.roster_instance.specs.declared.rules.ContractRules.{ContractRules}
use Rattle.roster_instance.specs.declared.rules.Past.{Past}
use Rattle.roster_instance.specs.Days.{works, is_off, has_shift, split_weekends}
use Rattle.roster_instance.specs.Meaning.{Meaning, contract_of, last_shift, past_of, run_of_shift, shift_count}
use Rattle.roster_instance.specs.Sizes.{cap}
use Rattle.roster_rules.specs.Penalties.{free_before, run_cost_of_shift, shift_run_before, split_cost, total_of, weekends_of, worked_before}
use Rattle.roster_rules.specs.Prefix.{Summary, due, last_run_of, shift_run_of, summary_of}
use Rattle.roster_rules.specs.Runs.{open_run}
use Rattle.roster_rules.specs.Weights.{assignment_weight, split_weight, weekend_weight}
use Rattle.roster_rules.proofs.RunLaw.{no_violations}
use Rattle.roster_rules.proofs.RunSums.{sum_zero}

pub due_at_first : (c : Meaning) (n : ℕ) → due c n [] ≡ assignment_weight * ((past_of c n).assignments - (contract_of c n).total.greatest) + weekend_weight * ((past_of c n).weekends - (contract_of c n).weekends)
unfolding due
due_at_first c n =
    let r : ContractRules = contract_of c n in
    let b : Border = (past_of c n).border in
    let working = no_violations r.working (worked_before b) (works []) in
    let free = no_violations r.free (free_before b) (is_off []) in
    let shifts = sum_zero (shift_count c) (run_cost_of_shift c n []) (λ t h. omega (arith, no_violations (run_of_shift c t) (shift_run_before t b) (has_shift t []))) in
    let splits : split_cost c n [] ≡ 0 = none_split r.whole_weekends in
    omega (arith, working, free, shifts, splits)
  where
    none_split : (q : Bool) → (if q then split_weight * split_weekends [] else 0) ≡ 0
    none_split true = refl
    none_split false = refl

-- ---- the summary of no days

-- the open run that the history ends with, of working days or of days off, and that of its last shift
abbrev pub run_at_first : ContractRules → Border → ℕ
run_at_first r (Free run) = min run (cap r.free)
run_at_first r (Working s own all) = min all (cap r.working)

abbrev pub shift_run_at_first : Meaning → Border → ℕ
shift_run_at_first c (Free run) = 0
shift_run_at_first c (Working s own all) = min own (cap (run_of_shift c s.0))

own_run : (b : Bool) → T b → (own : ℕ) → (if b then own else 0) ≡ own
own_run true same own = refl
own_run false same own = elim same [ ]

-- for any border instead of the history's
run_from : ContractRules → Border → Option Shift → ℕ
run_from r b None = min (free_before b) (cap r.free)
run_from r b (Some s) = min (worked_before b) (cap r.working)

shift_run_from : Meaning → Border → Option Shift → ℕ
shift_run_from c b None = 0
shift_run_from c b (Some s) = min (shift_run_before s.0 b) (cap (run_of_shift c s.0))

run_begun : (c : Meaning) (n : ℕ) (last : Option Shift) → run_from (contract_of c n) (past_of c n).border last ≡ last_run_of c n [] last
unfolding run_from open_run
run_begun c n None = refl
run_begun c n (Some s) = refl

shift_run_begun : (c : Meaning) (n : ℕ) (last : Option Shift) → shift_run_from c (past_of c n).border last ≡ shift_run_of c n [] last
unfolding shift_run_from open_run
shift_run_begun c n None = refl
shift_run_begun c n (Some s) = refl

run_of_last : (r : ContractRules) (b : Border) → run_at_first r b ≡ run_from r b (last_shift b)
unfolding run_from
run_of_last r (Free run) = refl
run_of_last r (Working s own all) = refl

shift_run_of_last : (c : Meaning) (b : Border) → shift_run_at_first c b ≡ shift_run_from c b (last_shift b)
unfolding shift_run_from
shift_run_of_last c (Free run) = refl
shift_run_of_last c (Working s own all) = ap (λ k. min k (cap (run_of_shift c s.0))) (sym (own_run (s.0 == s.0) (eqb_refl s.0) own))

pub summary_at_first : (c : Meaning) (n : ℕ) (past : Past) → past ≡ past_of c n → record { last = last_shift past.border; run = run_at_first (contract_of c n) past.border; shift_run = shift_run_at_first c past.border; assignments = min past.assignments (cap (contract_of c n).total); weekends = min past.weekends (contract_of c n).weekends } ≡ summary_of c n []
unfolding summary_of
summary_at_first c n past is =
    let r : ContractRules = contract_of c n in
    let b : Border = (past_of c n).border in
    let run = run_of_last r b ∙ run_begun c n (last_shift b) in
    let shift_run = shift_run_of_last c b ∙ shift_run_begun c n (last_shift b) in
    let here : (p : Past) → Summary = λ p. record { last = last_shift p.border; run = run_at_first r p.border; shift_run = shift_run_at_first c p.border; assignments = min p.assignments (cap r.total); weekends = min p.weekends r.weekends } in
    let assignments : min (past_of c n).assignments (cap r.total) ≡ min (total_of c n []) (cap r.total) = omega arith in
    let weekends : min (past_of c n).weekends r.weekends ≡ min (weekends_of c n []) r.weekends = omega arith in
    ap here is ∙ (λ i. record { last = last_shift b; run = run i; shift_run = shift_run i; assignments = assignments i; weekends = weekends i })
