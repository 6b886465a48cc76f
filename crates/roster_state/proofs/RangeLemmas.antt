-- The state after one more day fits the ranges, and so does the summary of any days.
use Rattle.std.proofs.Common.{◌≡◌, ◌+◌, ◌<◌, ◌≤◌, ℕ, zero, suc, true, arith, lt-ltb, max, List, [], ◌∷◌, map, slice_index_or, IfSome, Option, Some, None}
use Rattle.roster_instance.specs.declared.choice.Shift.{Shift}
use Rattle.roster_instance.specs.declared.rules.Limits.{Limits}
use Rattle.roster_instance.specs.Days.{Days}
use Rattle.roster_instance.specs.Meaning.{Meaning, contract_of, no_limits, shift_count}
use Rattle.roster_rules.specs.Prefix.{Summary, last_of, last_run_of, shift_run_of, summary_of}
use Rattle.roster_instance.specs.Sizes.{greatest_of, cap}
use Rattle.roster_state.specs.Codes.{Sizes, fits_sizes, shift_digit, sizes_of}
use Rattle.roster_state.specs.Transition.{next_of}

fits_by : (z : Sizes) (s : Summary) → shift_digit s.last < z.last → s.run < z.run → s.shift_run < z.shift_run → s.assignments < z.assignments → s.weekends < z.weekends → fits_sizes z s ≡ true
fits_by z s last run shift_run assignments weekends =
    rw (lt-ltb (shift_digit s.last) z.last last, lt-ltb s.run z.run run, lt-ltb s.shift_run z.shift_run shift_run, lt-ltb s.assignments z.assignments assignments, lt-ltb s.weekends z.weekends weekends)

-- the cap of a shift's run is at most the greatest
cap-greatest : (runs : List Limits) (s : ℕ) → cap (slice_index_or runs s no_limits) ≤ greatest_of (map cap runs)
cap-greatest [] s = omega arith
cap-greatest (l ∷ runs) zero = omega arith
cap-greatest (l ∷ runs) (suc s) = omega (arith, cap-greatest runs s)

-- the state after one more day fits
pub next_fits : (c : Meaning) (n day : ℕ) (s : Summary) (shift : Option Shift) → IfSome shift (λ t. t.0 < shift_count c) → fits_sizes (sizes_of c n) (next_of c n day s shift) ≡ true
unfolding next_of
next_fits c n day s None given = fits_by (sizes_of c n) (next_of c n day s None) (omega arith) (omega arith) (omega arith) (omega arith) (omega arith)
next_fits c n day s (Some t) given =
    fits_by (sizes_of c n) (next_of c n day s (Some t)) (omega (arith, given)) (omega arith) (omega (arith, cap-greatest c.runs t.0)) (omega arith) (omega arith)

module _ (c : Meaning) (n : ℕ) (days : Days) where
  number-fits : (last : Option Shift) → IfSome last (λ s. s.0 < shift_count c) → shift_digit last < shift_count c + 1
  number-fits None given = omega arith
  number-fits (Some s) given = omega (arith, given)

  run-fits : (last : Option Shift) → last_run_of c n days last < max (cap (contract_of c n).working) (cap (contract_of c n).free) + 1
  run-fits None = omega arith
  run-fits (Some s) = omega arith

  shift_run-fits : (last : Option Shift) → shift_run_of c n days last < greatest_of (map cap c.runs) + 1
  shift_run-fits None = omega arith
  shift_run-fits (Some s) = omega (arith, cap-greatest c.runs s.0)

  -- the summary of some days fits, if the last shift is one of the case's
  pub summary_fits : IfSome (last_of c n days) (λ s. s.0 < shift_count c) → fits_sizes (sizes_of c n) (summary_of c n days) ≡ true
  unfolding summary_of
  summary_fits given =
      fits_by (sizes_of c n) (summary_of c n days) (number-fits (last_of c n days) given) (run-fits (last_of c n days)) (shift_run-fits (last_of c n days)) (omega arith) (omega arith)
