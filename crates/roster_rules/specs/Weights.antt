-- The weights of the soft rules (INRC-II): the penalty points for each that is missing or too many.
use Rattle.std.specs.Prelude.{ℕ, ◌+◌}
use Rattle.roster_instance.specs.Limits.{most_keep}

-- a nurse by whom a slot is short of its optimum
abbrev pub staffing_weight : ℕ
staffing_weight = 30

-- a missing or extra day of a run of working days
abbrev pub working_run_weight : ℕ
working_run_weight = 30

-- a missing or extra day of a run of one shift
abbrev pub shift_run_weight : ℕ
shift_run_weight = 15

-- a missing or extra day of a run of days off
abbrev pub free_run_weight : ℕ
free_run_weight = 30

-- an assignment to a shift that an off request names
abbrev pub off_request_weight : ℕ
off_request_weight = 10

-- a weekend of which exactly one day is worked
abbrev pub split_weight : ℕ
split_weight = 30

-- an assignment below the least total, or above the greatest
abbrev pub assignment_weight : ℕ
assignment_weight = 20

-- a worked weekend above the greatest number
abbrev pub weekend_weight : ℕ
weekend_weight = 30

-- a day of a nurse with a wish to work that isn't met (our own rule)
abbrev pub wish_weight : ℕ
wish_weight = 10

-- the most that a nurse's requests can cost on a day, including a roster that is kept
abbrev pub most_request : ℕ
most_request = off_request_weight + wish_weight + most_keep
