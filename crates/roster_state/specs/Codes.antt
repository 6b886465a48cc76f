-- The codes of the states of a nurse's search: a code has a digit for each of the five numbers, with the
-- assignments last. So states that differ in their assignments alone have consecutive codes (our own).
use Rattle.std.specs.Prelude.{ℕ, ◌+◌, ◌-◌, ◌*◌, ◌/◌, ◌%◌, Bool, ◌&&◌, ◌<◌, ◌≤◌, max, nat_lt, if◌then◌else◌, map, Option, Some, None}
use Rattle.roster_instance.specs.declared.choice.Shift.{Shift}
use Rattle.roster_instance.specs.Meaning.{Meaning, contract_of, shift_at, shift_count}
use Rattle.roster_rules.specs.Prefix.{Summary}
use Rattle.roster_instance.specs.Limits.{most_shifts, most_small, most_states}
use Rattle.roster_instance.specs.Sizes.{greatest_of, cap}

-- how many values each of the five numbers has
pub record Sizes : Type 0 where
  pub last : ℕ
  pub run : ℕ
  pub shift_run : ℕ
  pub assignments : ℕ
  pub weekends : ℕ

-- those of a nurse: the shifts and none, and from 0 up to the cap of each other number
abbrev pub sizes_of : Meaning → ℕ → Sizes
sizes_of c n = record {
  last = shift_count c + 1;
  run = max (cap (contract_of c n).working) (cap (contract_of c n).free) + 1;
  shift_run = greatest_of (map cap c.runs) + 1;
  assignments = cap (contract_of c n).total + 1;
  weekends = (contract_of c n).weekends + 1;
}

-- the number of states
abbrev pub product : Sizes → ℕ
product z = z.last * z.run * z.shift_run * z.assignments * z.weekends

-- the number of blocks, each of which has as many states as the assignments have values
abbrev pub blocks : Sizes → ℕ
blocks z = z.last * z.run * z.shift_run * z.weekends

-- the last shift as a number, 0 for none
abbrev pub shift_digit : Option Shift → ℕ
shift_digit None = 0
shift_digit (Some s) = s.0 + 1

abbrev pub shift_numbered : ℕ → Option Shift
shift_numbered n = if nat_lt 0 n then Some (shift_at (n - 1)) else None

-- each number of the state is one of its values
abbrev pub fits_sizes : Sizes → Summary → Bool
fits_sizes z s =
    nat_lt (shift_digit s.last) z.last && nat_lt s.run z.run && nat_lt s.shift_run z.shift_run
    && nat_lt s.assignments z.assignments && nat_lt s.weekends z.weekends

-- the code of a state
unfoldable pub code_of : Sizes → Summary → ℕ
code_of z s =
    (((shift_digit s.last * z.run + s.run) * z.shift_run + s.shift_run) * z.weekends + s.weekends)
    * z.assignments + s.assignments

-- the state whose numbers are the digits of a code
unfoldable pub state_numbered : Sizes → ℕ → Summary
state_numbered z code = record {
  last = shift_numbered (code / z.assignments / z.weekends / z.shift_run / z.run);
  run = code / z.assignments / z.weekends / z.shift_run % z.run;
  shift_run = code / z.assignments / z.weekends % z.shift_run;
  assignments = code % z.assignments;
  weekends = code / z.assignments % z.weekends;
}

-- the state of a code, none from the product on
unfoldable pub state_at : Sizes → ℕ → Option Summary
state_at z code = if nat_lt code (product z) then Some (state_numbered z code) else None

-- at least one value, and no more than `most`
pub record IsWithin (most size : ℕ) : Type 0 where
  pub some : 0 < size
  pub few : size ≤ most

-- what the sizes of every nurse keep, since the numbers of a case are small: a value for each shift and one
-- more for the last shift, those from 0 to the greatest small number for each other, and together no more
-- states than the search takes
pub record KeepLimits (z : Sizes) : Type 0 where
  pub last : IsWithin (most_shifts + 1) z.last
  pub run : IsWithin (most_small + 1) z.run
  pub shift_run : IsWithin (most_small + 1) z.shift_run
  pub assignments : IsWithin (most_small + 1) z.assignments
  pub weekends : IsWithin (most_small + 1) z.weekends
  pub states : product z ≤ most_states
