-- What a roster that is kept adds to the penalty.
use Rattle.std.proofs.Common.{◌≡◌, ◌∙◌, ◌+◌, ◌*◌, ◌==◌, ℕ, zero, suc, Bool, true, false, not, ap, arith, refl, sym, length, if◌then◌else◌}
use Rattle.std.proofs.Math.Nat.{mul-add, mul-zero, zero-mul}
use Rattle.std.proofs.lemmas.Bool.{eqb-true}
use Rattle.roster_instance.specs.Choices.{shift_of}
use Rattle.roster_instance.specs.Counting.{one_if, sum_below}
use Rattle.roster_instance.specs.Days.{shift_on}
use Rattle.roster_instance.specs.Meaning.{Meaning, keeping, nurse_count}
use Rattle.roster_instance.specs.Rosters.{Rows, choice_on, days_of_nurse, row_of}
use Rattle.roster_rules.specs.HardRules.{hard_faults}
use Rattle.roster_rules.specs.Penalties.{costs_of, free_run_cost, keep_cost, keep_cost_on, off_request_cost, over_nurses, penalty, same_shift, shift_run_cost, split_cost, staffing_cost, totals_cost, weekends_cost, wish_cost, working_run_cost}
use Rattle.roster_rules.proofs.KeptLemmas.{free_days_at_no_points, nothing_below}
use Rattle.roster_laws.specs.Kept.{changed_days, changed_days_of}

abbrev with_kept : Meaning → Rows → ℕ → Meaning
with_kept c rows keep = record c { base = rows; keep = keep }

-- the eight other rules together
unfoldable eight_rules : Meaning → Rows → ℕ
eight_rules c r =
    staffing_cost c r + over_nurses c r (λ n days. working_run_cost c n days + shift_run_cost c n days) + over_nurses c r (free_run_cost c) + over_nurses c r (off_request_cost c) + over_nurses c r (split_cost c)
    + over_nurses c r (totals_cost c) + over_nurses c r (weekends_cost c) + over_nurses c r (wish_cost c)

penalty_is : (c : Meaning) (r : Rows) → penalty c r ≡ eight_rules c r + over_nurses c r (keep_cost c)
unfolding penalty costs_of eight_rules
penalty_is c r = refl

-- none of these depends on a roster that is kept
kept_penalty_is : (c : Meaning) (rows : Rows) (keep : ℕ) (r : Rows) → penalty (with_kept c rows keep) r ≡ eight_rules c r + over_nurses (with_kept c rows keep) r (keep_cost (with_kept c rows keep))
unfolding penalty costs_of eight_rules
kept_penalty_is c rows keep r = refl

-- ---- a roster that is kept costs its points for each change

times_below : (m keep : ℕ) (f g : ℕ → ℕ) → ((n : ℕ) → f n ≡ keep * g n) → sum_below m f ≡ keep * sum_below m g
times_below zero keep f g each = sym (mul-zero keep)
times_below (suc m) keep f g each = omega (arith, times_below m keep f g each, each m, mul-add keep (sum_below m g) (g m))

one_day : (keep : ℕ) (same : Bool) → (if same then 0 else keep) ≡ keep * one_if (not same)
one_day keep true = sym (mul-zero keep)
one_day keep false = omega arith

module _ (c : Meaning) (rows : Rows) (keep : ℕ) (r : Rows) where
  one_nurse : (n : ℕ) → keep_cost (with_kept c rows keep) n (days_of_nurse r n) ≡ keep * changed_days_of rows r n
  one_nurse n =
      let same : ℕ → Bool = λ d. same_shift (shift_of (choice_on (row_of rows n) d)) (shift_on (days_of_nurse r n) d) in
      times_below (length (days_of_nurse r n)) keep (λ d. keep_cost_on (with_kept c rows keep) n d (shift_on (days_of_nurse r n) d)) (λ d. one_if (not (same d))) (λ d. one_day keep (same d))

  all_nurses : over_nurses (with_kept c rows keep) r (keep_cost (with_kept c rows keep)) ≡ keep * changed_days c rows r
  all_nurses = times_below (nurse_count c) keep (λ n. keep_cost (with_kept c rows keep) n (days_of_nurse r n)) (changed_days_of rows r) one_nurse

-- ---- and nothing at 0 points

none_at_no_points : (c : Meaning) → c.keep ≡ 0 → (r : Rows) → over_nurses c r (keep_cost c) ≡ 0
none_at_no_points c none r = nothing_below (nurse_count c) (λ n. keep_cost c n (days_of_nurse r n)) (λ n. free_days_at_no_points c n (days_of_nurse r n) none)

last_rule : (c : Meaning) → c.keep ≡ 0 → (r : Rows) → (costs_of c r).s9 ≡ 0
unfolding costs_of
last_rule c none r = none_at_no_points c none r

pub eight_are_all : (c : Meaning) → c.keep ≡ 0 → (r : Rows)
    → penalty c r ≡ (costs_of c r).s1 + (costs_of c r).s2 + (costs_of c r).s3 + (costs_of c r).s4 + (costs_of c r).s5 + (costs_of c r).s6 + (costs_of c r).s7 + (costs_of c r).s8
unfolding penalty
eight_are_all c none r = omega (arith, last_rule c none r)

pub kept_penalty : (c : Meaning) (rows : Rows) (keep : ℕ) → c.keep ≡ 0 → (r : Rows) → penalty (keeping c rows keep) r ≡ penalty c r + keep * changed_days c rows r
kept_penalty c rows keep none r = go (keep == 0) refl
  where
    go : (b : Bool) → (keep == 0) ≡ b → penalty (if b then c else with_kept c rows keep) r ≡ penalty c r + keep * changed_days c rows r
    go true e =
        let nothing : keep * changed_days c rows r ≡ 0 = ap (λ k. k * changed_days c rows r) (eqb-true keep 0 e) ∙ zero-mul (changed_days c rows r) in
        let more : penalty c r ≡ penalty c r + keep * changed_days c rows r = omega (arith, nothing) in
        more
    go false e =
        let last : eight_rules c r + over_nurses (with_kept c rows keep) r (keep_cost (with_kept c rows keep)) ≡ penalty c r + keep * changed_days c rows r =
        omega (arith, penalty_is c r, none_at_no_points c none r, all_nurses c rows keep r) in
        kept_penalty_is c rows keep r ∙ last

pub kept_hard : (c : Meaning) (rows : Rows) (keep : ℕ) (r : Rows) → hard_faults (keeping c rows keep) r ≡ hard_faults c r
unfolding hard_faults
kept_hard c rows keep r = go (keep == 0)
  where
    go : (b : Bool) → hard_faults (if b then c else with_kept c rows keep) r ≡ hard_faults c r
    go true = refl
    go false = refl
