-- A nurse's days without the skills: on each day the shift, or none if the nurse is off. All days past the
-- end are off, so the first days of a row are such a list too. Day 0 is a Monday; week v has its weekend on
-- the days 7 v + 5 and 7 v + 6 (INRC-II).
use Rattle.std.specs.Prelude.{ℕ, ◌+◌, ◌*◌, ◌/◌, Bool, true, false, not, ◌||◌, ◌==◌, List, length, Option, Some, None, is_some, slice_index_or}
use Rattle.roster_instance.specs.declared.choice.Shift.{Shift}
use Rattle.roster_instance.specs.Counting.{count_below}

-- for each day the shift that a nurse works, or none
abbrev pub Days : Type 0
Days = List (Option Shift)

-- the shift of a day, if any
abbrev pub shift_on : Days → ℕ → Option Shift
shift_on days d = slice_index_or days d None

-- the shift is that of this number
abbrev pub is_shift : ℕ → Option Shift → Bool
is_shift s None = false
is_shift s (Some t) = t.0 == s

-- three kinds of days: worked, off, and worked with the shift of this number
abbrev pub works : Days → ℕ → Bool
works days d = is_some (shift_on days d)

abbrev pub is_off : Days → ℕ → Bool
is_off days d = not (works days d)

abbrev pub has_shift : ℕ → Days → ℕ → Bool
has_shift s days d = is_shift s (shift_on days d)

-- the number of worked days
abbrev pub days_worked : Days → ℕ
days_worked days = count_below (length days) (works days)

-- the first day of a weekend
abbrev pub saturday : ℕ → ℕ
saturday v = 7 * v + 5

-- the number of weekends whose Saturday is among the days
abbrev pub weekends_begun : Days → ℕ
weekends_begun days = (length days + 1) / 7

-- the number of weekends whose Sunday is among the days
abbrev pub weekends_ended : Days → ℕ
weekends_ended days = length days / 7

-- the number of weekends with a worked day
abbrev pub worked_weekends : Days → ℕ
worked_weekends days =
    count_below (weekends_begun days) (λ v. works days (saturday v) || works days (saturday v + 1))

-- exactly one of two tests passes
abbrev pub one_alone : Bool → Bool → Bool
one_alone true b = not b
one_alone false b = b

-- the number of weekends within the days with exactly one worked day
abbrev pub split_weekends : Days → ℕ
split_weekends days =
    count_below (weekends_ended days) (λ v. one_alone (works days (saturday v)) (works days (saturday v + 1)))
