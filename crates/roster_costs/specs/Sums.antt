-- What all nurses cost by each rule, nurse by nurse.
use Rattle.std.specs.Prelude.{◌+◌, ◌*◌, ◌≤◌, ℕ}
use Rattle.roster_instance.specs.Counting.{sum_below}
use Rattle.roster_instance.specs.Days.{Days}
use Rattle.roster_instance.specs.Meaning.{Meaning}
use Rattle.roster_instance.specs.Rosters.{Rows, days_of_nurse}
use Rattle.roster_rules.specs.declared.penalties.Costs.{Costs}
use Rattle.roster_rules.specs.Penalties.{free_run_cost, keep_cost, off_request_cost, shift_run_cost, split_cost, staffing_cost, totals_cost, weekends_cost, wish_cost, working_run_cost}

-- what the staffing of a day costs at most: 2^27
abbrev pub most_staffing_of_day : ℕ
most_staffing_of_day = 134217728

-- what one part of a rule costs for a nurse at most: 2^32
abbrev pub most_of_part : ℕ
most_of_part = 4294967296

-- what a rule costs for a nurse at most: S2 has two parts, runs of working days and runs of a shift, and each
-- other rule has one
abbrev pub most_of_rule : ℕ
most_of_rule = 2 * most_of_part

-- the costs after a nurse's days have been added, by each rule but staffing
abbrev pub with_nurse : Meaning → ℕ → Days → Costs → Costs
with_nurse c n days k = record {
  s1 = k.s1;
  s2 = k.s2 + (working_run_cost c n days + shift_run_cost c n days);
  s3 = k.s3 + free_run_cost c n days;
  s4 = k.s4 + off_request_cost c n days;
  s5 = k.s5 + split_cost c n days;
  s6 = k.s6 + totals_cost c n days;
  s7 = k.s7 + weekends_cost c n days;
  s8 = k.s8 + wish_cost c n days;
  s9 = k.s9 + keep_cost c n days;
}

-- staffing, and the costs of the nurses before n
abbrev pub costs_before : Meaning → Rows → ℕ → Costs
costs_before c r n = record {
  s1 = staffing_cost c r;
  s2 = sum_below n (λ m. working_run_cost c m (days_of_nurse r m) + shift_run_cost c m (days_of_nurse r m));
  s3 = sum_below n (λ m. free_run_cost c m (days_of_nurse r m));
  s4 = sum_below n (λ m. off_request_cost c m (days_of_nurse r m));
  s5 = sum_below n (λ m. split_cost c m (days_of_nurse r m));
  s6 = sum_below n (λ m. totals_cost c m (days_of_nurse r m));
  s7 = sum_below n (λ m. weekends_cost c m (days_of_nurse r m));
  s8 = sum_below n (λ m. wish_cost c m (days_of_nurse r m));
  s9 = sum_below n (λ m. keep_cost c m (days_of_nurse r m));
}

-- no sum but that of staffing is above what the rule costs n nurses at most
pub record AreWithin (k : Costs) (n : ℕ) : Type 0 where
  pub s2 : k.s2 ≤ most_of_rule * n
  pub s3 : k.s3 ≤ most_of_rule * n
  pub s4 : k.s4 ≤ most_of_rule * n
  pub s5 : k.s5 ≤ most_of_rule * n
  pub s6 : k.s6 ≤ most_of_rule * n
  pub s7 : k.s7 ≤ most_of_rule * n
  pub s8 : k.s8 ≤ most_of_rule * n
  pub s9 : k.s9 ≤ most_of_rule * n
