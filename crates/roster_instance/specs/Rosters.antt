-- Rosters: a row of choices for each nurse (INRC-II).
use Rattle.std.specs.Prelude.{ℕ, Bool, true, ◌&&◌, ◌==◌, nat_lt, List, [], count_by, length, slice_index_or, slice_set}
use Rattle.std.specs.List.{list_all}
use Rattle.roster_instance.specs.declared.choice.Choice.{Choice}
use Rattle.roster_instance.specs.declared.choice.Choice.TheVariants.{Off, Work}
use Rattle.roster_instance.specs.Choices.{days_of, same_choice}
use Rattle.roster_instance.specs.Days.{Days}
use Rattle.roster_instance.specs.Meaning.{Meaning, day_count, shift_count, skill_count, nurse_count, shift_at, skill_at}

-- a choice for each day
abbrev pub Row : Type 0
Row = List Choice

-- a row for each nurse, so that nobody has two shifts on one day
abbrev pub Rows : Type 0
Rows = List Row

-- the choice on a day; off past the end
abbrev pub choice_on : Row → ℕ → Choice
choice_on row day = slice_index_or row day Off

-- the row of a nurse; empty past the end
abbrev pub row_of : Rows → ℕ → Row
row_of r n = slice_index_or r n []

-- the shifts in a nurse's row
abbrev pub days_of_nurse : Rows → ℕ → Days
days_of_nurse r n = days_of (row_of r n)

-- how many nurses work in a slot
abbrev pub cover : Rows → ℕ → ℕ → ℕ → ℕ
cover r day s k = count_by (λ row. same_choice (choice_on row day) (Work (shift_at s) (skill_at k))) r

-- the roster with this row as that of nurse n
abbrev pub with_row : Rows → ℕ → Row → Rows
with_row r n row = slice_set r n row

-- ---- a roster fits a case: a row for each nurse, a choice for each day, and the case's shifts and skills

-- the shift and the skill are the case's
abbrev pub is_choice_of : Meaning → Choice → Bool
is_choice_of c Off = true
is_choice_of c (Work s k) = nat_lt s.0 (shift_count c) && nat_lt k.0 (skill_count c)

-- a choice for each day of the case, each one of the case's
abbrev pub is_row_of : Meaning → Row → Bool
is_row_of c row = (length row == day_count c) && list_all (is_choice_of c) row

-- a row for each nurse of the case, each one of the case's
abbrev pub fits_case : Meaning → Rows → Bool
fits_case c r = (length r == nurse_count c) && list_all (is_row_of c) r
