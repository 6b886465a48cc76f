-- Each penalty is a multiple of 5, since each weight is, if the points for a roster that is kept are a
-- multiple of 5 too.
use Rattle.std.proofs.Common.{◌≡◌, ◌+◌, ◌*◌, ◌%◌, ◌<◌, ◌≤◌, ◌⊎◌, ◌==◌, ℕ, zero, suc, Bool, true, false, ap, arith, inl, inr, refl, subst, if◌then◌else◌}
use Rattle.std.proofs.lemmas.Bool.{eqb-true}
use Rattle.roster_instance.specs.Counting.{sum_below}
use Rattle.roster_instance.specs.Days.{Days, split_weekends}
use Rattle.roster_instance.specs.Meaning.{Meaning, contract_of, day_count, nurse_count, shift_count, skill_count}
use Rattle.roster_rules.specs.Penalties.{breaks_off_request, is_kept, keep_cost, meets_wishes, costs_of, free_run_cost, off_request_cost, over_nurses, penalty, penalty_unit, run_cost_of_shift, shift_run_cost, split_cost, staffing_cost, staffing_cost_of_day, staffing_cost_of_slot, totals_cost, weekends_cost, wish_cost, working_run_cost}
use Rattle.roster_rules.specs.Weights.{staffing_weight, working_run_weight, shift_run_weight, free_run_weight, off_request_weight, split_weight, assignment_weight, weekend_weight, wish_weight}
use Rattle.roster_instance.specs.Rosters.{Rows, cover, days_of_nurse}

abbrev pub IsFive : ℕ → Type 0
IsFive n = n % 5 ≡ 0

plus : (a b : ℕ) → IsFive a → IsFive b → IsFive (a + b)
plus a b e f = omega (arith, e, f)

sum_is : (n : ℕ) (f : ℕ → ℕ) → ((k : ℕ) → IsFive (f k)) → IsFive (sum_below n f)
sum_is zero f each = refl
sum_is (suc n) f each = plus (sum_below n f) (f n) (sum_is n f each) (each n)

where_is : (b : Bool) (n : ℕ) → IsFive n → IsFive (if b then n else 0)
where_is true n e = e
where_is false n e = refl

unless_is : (b : Bool) (n : ℕ) → IsFive n → IsFive (if b then 0 else n)
unless_is true n e = refl
unless_is false n e = e

by_staffing : (n : ℕ) → IsFive (staffing_weight * n)
by_staffing n = omega arith

by_working_run : (n : ℕ) → IsFive (working_run_weight * n)
by_working_run n = omega arith

by_shift_run : (n : ℕ) → IsFive (shift_run_weight * n)
by_shift_run n = omega arith

by_free_run : (n : ℕ) → IsFive (free_run_weight * n)
by_free_run n = omega arith

by_split : (n : ℕ) → IsFive (split_weight * n)
by_split n = omega arith

by_assignment : (n : ℕ) → IsFive (assignment_weight * n)
by_assignment n = omega arith

by_weekend : (n : ℕ) → IsFive (weekend_weight * n)
by_weekend n = omega arith

whole : (n : ℕ) → n % 1 ≡ 0
whole n = omega arith

module _ (c : Meaning) where
  staffing_is : (r : Rows) → IsFive (staffing_cost c r)
  staffing_is r = sum_is (day_count c) (staffing_cost_of_day c r) (λ d. sum_is (shift_count c) _ (λ s. sum_is (skill_count c) (staffing_cost_of_slot c d (cover r d) s) (λ k. by_staffing _)))

  runs_are : (n : ℕ) (days : Days) → IsFive (working_run_cost c n days + shift_run_cost c n days)
  runs_are n days = plus (working_run_cost c n days) (shift_run_cost c n days) (by_working_run _) (sum_is (shift_count c) (run_cost_of_shift c n days) (λ s. by_shift_run _))

  off_requests_are : (n : ℕ) (days : Days) → IsFive (off_request_cost c n days)
  off_requests_are n days = sum_is _ _ (λ d. where_is (breaks_off_request c n d _) off_request_weight refl)

  wishes_are : (n : ℕ) (days : Days) → IsFive (wish_cost c n days)
  wishes_are n days = sum_is _ _ (λ d. unless_is (meets_wishes c n d _) wish_weight refl)

  split_is : (n : ℕ) (days : Days) → IsFive (split_cost c n days)
  split_is n days = where_is (contract_of c n).whole_weekends (split_weight * split_weekends days) (by_split (split_weekends days))

  totals_are : (n : ℕ) (days : Days) → IsFive (totals_cost c n days)
  totals_are n days = plus _ _ (by_assignment _) (by_assignment _)

  free_is : (n : ℕ) (days : Days) → IsFive (free_run_cost c n days)
  free_is n days = by_free_run _

  weekends_are : (n : ℕ) (days : Days) → IsFive (weekends_cost c n days)
  weekends_are n days = by_weekend _

  over_nurses_is : (r : Rows) (rule : ℕ → Days → ℕ) → ((n : ℕ) (days : Days) → IsFive (rule n days)) → IsFive (over_nurses c r rule)
  over_nurses_is r rule each = sum_is (nurse_count c) (λ n. rule n (days_of_nurse r n)) (λ n. each n (days_of_nurse r n))

  keeps_are : IsFive c.keep → (n : ℕ) (days : Days) → IsFive (keep_cost c n days)
  keeps_are five n days = sum_is _ _ (λ d. unless_is (is_kept c n d _) c.keep five)

  pub five_is : c.keep % 5 ≡ 0 → (r : Rows) → IsFive (penalty c r)
  unfolding penalty costs_of
  five_is five r =
      let runs = plus _ _ (staffing_is r) (over_nurses_is r (λ n days. working_run_cost c n days + shift_run_cost c n days) runs_are) in
      let free = plus _ _ runs (over_nurses_is r (free_run_cost c) free_is) in
      let requests = plus _ _ free (over_nurses_is r (off_request_cost c) off_requests_are) in
      let weekends = plus _ _ requests (over_nurses_is r (split_cost c) split_is) in
      let assignments = plus _ _ weekends (over_nurses_is r (totals_cost c) totals_are) in
      let worked = plus _ _ assignments (over_nurses_is r (weekends_cost c) weekends_are) in
      let wishes = plus _ _ worked (over_nurses_is r (wish_cost c) wishes_are) in
      plus _ _ wishes (over_nurses_is r (keep_cost c) (keeps_are five))

  -- a penalty is a multiple of its unit
  pub penalty_is : (r : Rows) → penalty c r % penalty_unit c ≡ 0
  unfolding penalty_unit
  penalty_is r = go (c.keep % 5 == 0) refl
    where
      go : (b : Bool) → (c.keep % 5 == 0) ≡ b → penalty c r % (if b then 5 else 1) ≡ 0
      go true e = five_is (eqb-true (c.keep % 5) 0 e) r
      go false e = whole (penalty c r)

abbrev unit_by : Bool → ℕ
unit_by b = if b then 5 else 1

one_of_them : (b : Bool) → (unit_by b ≡ 5) ⊎ (unit_by b ≡ 1)
one_of_them true = inl refl
one_of_them false = inr refl

-- the unit is 5 or 1
pub unit_is : (c : Meaning) → (penalty_unit c ≡ 5) ⊎ (penalty_unit c ≡ 1)
unfolding penalty_unit
unit_is c = one_of_them (c.keep % 5 == 0)

pub five_unit : (c : Meaning) → c.keep % 5 ≡ 0 → penalty_unit c ≡ 5
unfolding penalty_unit
five_unit c five = ap (λ n. if n == 0 then 5 else 1) five

by_fives : (p q : ℕ) → p % 5 ≡ 0 → q % 5 ≡ 0 → p < q → p + 5 ≤ q
by_fives p q e f less = omega (arith, e, f, less)

-- two multiples of the unit that differ do so by at least the unit
pub by_unit : (u p q : ℕ) → (u ≡ 5) ⊎ (u ≡ 1) → p % u ≡ 0 → q % u ≡ 0 → p < q → p + u ≤ q
by_unit u p q (inl five) e f less = rw five (by_fives p q (subst (λ m. p % m ≡ 0) five e) (subst (λ m. q % m ≡ 0) five f) less)
by_unit u p q (inr one) e f less = omega (arith, one, less)

-- n is at most n times the unit
pub within_times : (u n : ℕ) → (u ≡ 5) ⊎ (u ≡ 1) → n ≤ u * n
within_times u n (inl five) = rw five (omega arith)
within_times u n (inr one) = rw one (omega arith)
