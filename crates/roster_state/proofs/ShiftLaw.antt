-- What one more day costs in the runs of the shifts: of all shifts at most two count, the last one, whose run
-- ends, and the one that is worked.
use Rattle.std.proofs.Common.{◌≡◌, ◌≢◌, ◌⊎◌, refl, sym, ap, arith, ℕ, zero, suc, ◌+◌, ◌*◌, ◌<◌, true, false, if◌then◌else◌, Option, Some, None, IfSome, inl, inr}
use Rattle.std.proofs.lemmas.Bool.{cases_eq, eq-eqb, ne_eqb}
use Rattle.roster_instance.specs.declared.choice.Shift.{Shift}
use Rattle.roster_instance.specs.declared.rules.Limits.{Limits}
use Rattle.roster_instance.specs.Counting.{sum_below}
use Rattle.roster_instance.specs.Days.{is_shift}
use Rattle.roster_instance.specs.Meaning.{Meaning, run_of_shift, shift_count}
use Rattle.roster_rules.specs.Prefix.{Summary}
use Rattle.roster_instance.specs.RunLaw.{day_violations}
use Rattle.roster_rules.specs.Weights.{shift_run_weight}
use Rattle.roster_rules.proofs.RunSums.{sum_zero}
use Rattle.roster_state.specs.Transition.{ended, shifts_more, worked}

-- ---- sums in which one number counts, or two

sum_one_by : (n t : ℕ) (f : ℕ → ℕ) → t < suc n → ((k : ℕ) → k < suc n → k ≢ t → f k ≡ 0) → (t < n → sum_below n f ≡ f t) → (t ≡ n) ⊎ (t ≢ n) → sum_below n f + f n ≡ f t
sum_one_by n t f h none rest (inl e) = omega (arith, sum_zero n f (λ k l. none k (omega arith) (λ g. omega arith)), ap f e)
sum_one_by n t f h none rest (inr e) = omega (arith, rest (omega arith), none n (omega arith) (λ g. e (sym g)))

sum_one : (n t : ℕ) (f : ℕ → ℕ) → t < n → ((k : ℕ) → k < n → k ≢ t → f k ≡ 0) → sum_below n f ≡ f t
sum_one zero t f h none = absurd (omega arith)
sum_one (suc n) t f h none = sum_one_by n t f h none (λ l. sum_one n t f l (λ k m. none k (omega arith))) (cases_eq t n)

sum_two_by : (n t u : ℕ) (f : ℕ → ℕ) → t < suc n → u < suc n → t ≢ u → ((k : ℕ) → k < suc n → k ≢ t → k ≢ u → f k ≡ 0) → (t < n → u < n → sum_below n f ≡ f t + f u) → (t ≡ n) ⊎ (t ≢ n) → (u ≡ n) ⊎ (u ≢ n) → sum_below n f + f n ≡ f t + f u
sum_two_by n t u f h l apart none rest (inl e) other =
    omega (arith, sum_one n u f (omega arith) (λ k m g. none k (omega arith) (λ i. omega arith) g), ap f e)
sum_two_by n t u f h l apart none rest (inr d) (inl e) =
    omega (arith, sum_one n t f (omega arith) (λ k m g. none k (omega arith) g (λ i. omega arith)), ap f e)
sum_two_by n t u f h l apart none rest (inr d) (inr e) =
    omega (arith, rest (omega arith) (omega arith), none n (omega arith) (λ g. d (sym g)) (λ g. e (sym g)))

sum_two : (n t u : ℕ) (f : ℕ → ℕ) → t < n → u < n → t ≢ u → ((k : ℕ) → k < n → k ≢ t → k ≢ u → f k ≡ 0) → sum_below n f ≡ f t + f u
sum_two zero t u f h l apart none = absurd (omega arith)
sum_two (suc n) t u f h l apart none =
    sum_two_by n t u f h l apart none (λ i j. sum_two n t u f i j apart (λ k m. none k (omega arith))) (cases_eq t n) (cases_eq u n)

-- ---- the shifts

-- what the runs of one shift owe
abbrev more : (ℕ → Limits) → Option Shift → ℕ → Option Shift → ℕ → ℕ
more runs last run shift t = shift_run_weight * day_violations (runs t) (if is_shift t last then run else 0) (is_shift t shift)

no_more : (l : Limits) → shift_run_weight * day_violations l 0 false ≡ 0
no_more l = refl

module _ (n : ℕ) (runs : ℕ → Limits) (run : ℕ) where
  -- the last shift is worked again, or another one
  again : (t u : Shift) → t.0 < n → u.0 < n → (t.0 ≡ u.0) ⊎ (t.0 ≢ u.0) → sum_below n (more runs (Some t) run (Some u)) ≡ shift_run_weight * ended runs (Some t) run (Some u) + shift_run_weight * worked runs (Some t) run (Some u)
  again t u h l (inl e) =
      let is : more runs (Some t) run (Some u) u.0 ≡ shift_run_weight * day_violations (runs u.0) run true = rw (eq-eqb t.0 u.0 e, eq-eqb u.0 u.0 refl) in
      let one = sum_one n u.0 (more runs (Some t) run (Some u)) l (λ k m g. rw (ne_eqb t.0 k (λ i. omega arith), ne_eqb u.0 k (λ i. omega arith))) in
      rw (eq-eqb t.0 u.0 e, eq-eqb u.0 t.0 (sym e)) (omega (arith, one, is))
  again t u h l (inr e) =
      let was : more runs (Some t) run (Some u) t.0 ≡ shift_run_weight * day_violations (runs t.0) run false = rw (eq-eqb t.0 t.0 refl, ne_eqb u.0 t.0 (λ i. e (sym i))) in
      let is : more runs (Some t) run (Some u) u.0 ≡ shift_run_weight * day_violations (runs u.0) 0 true = rw (ne_eqb t.0 u.0 e, eq-eqb u.0 u.0 refl) in
      let two = sum_two n t.0 u.0 (more runs (Some t) run (Some u)) h l e (λ k m g i. rw (ne_eqb t.0 k (λ j. g (sym j)), ne_eqb u.0 k (λ j. i (sym j)))) in
      rw (ne_eqb t.0 u.0 e, ne_eqb u.0 t.0 (λ i. e (sym i))) (omega (arith, two, was, is))

  by_two : (last shift : Option Shift) → IfSome last (λ t. t.0 < n) → IfSome shift (λ t. t.0 < n) → sum_below n (more runs last run shift) ≡ shift_run_weight * ended runs last run shift + shift_run_weight * worked runs last run shift
  by_two None None h l = sum_zero n (more runs None run None) (λ k m. refl)
  by_two None (Some u) h l =
      let is : more runs None run (Some u) u.0 ≡ shift_run_weight * day_violations (runs u.0) 0 true = rw (eq-eqb u.0 u.0 refl) in
      omega (arith, sum_one n u.0 (more runs None run (Some u)) l (λ k m g. rw (ne_eqb u.0 k (λ i. g (sym i)))), is)
  by_two (Some t) None h l =
      let was : more runs (Some t) run None t.0 ≡ shift_run_weight * day_violations (runs t.0) run false = rw (eq-eqb t.0 t.0 refl) in
      omega (arith, sum_one n t.0 (more runs (Some t) run None) h (λ k m g. rw (ne_eqb t.0 k (λ i. g (sym i)))), was)
  by_two (Some t) (Some u) h l = again t u h l (cases_eq t.0 u.0)

-- the points for each of two violations
pub shifts_by_two : (c : Meaning) (s : Summary) (shift : Option Shift) → IfSome s.last (λ t. t.0 < shift_count c) → IfSome shift (λ t. t.0 < shift_count c) → shifts_more c s shift ≡ shift_run_weight * ended (run_of_shift c) s.last s.shift_run shift + shift_run_weight * worked (run_of_shift c) s.last s.shift_run shift
shifts_by_two c s shift h l = by_two (shift_count c) (run_of_shift c) s.shift_run s.last shift h l
