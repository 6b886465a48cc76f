-- Bundles without the section of fixed days, and the frozen days that are left for them: those of the weeks
-- before `from`.
use Rattle.std.specs.Prelude.{◌≡◌, ℕ, ◌/◌, Bool, false, not, ◌&&◌, ◌||◌, nat_lt, List, All, None, filter}
use Rattle.roster_bundle.specs.declared.bundle.Bundle.{Bundle}
use Rattle.roster_bundle.specs.declared.bundle.WeekData.{WeekData}
use Rattle.roster_instance.specs.Choices.{all_choices, all_rows, same_choice}
use Rattle.roster_instance.specs.Counting.{all_below}
use Rattle.roster_instance.specs.Meaning.{Meaning, day_count, is_fixed}
use Rattle.roster_instance.specs.Rosters.{Row, Rows, choice_on, row_of, with_row}
use Rattle.roster_rules.specs.HardRules.{keeps_hard}

-- the week doesn't have the section; below, no week of the bundle has it
abbrev pub FixesNothing : WeekData → Type 0
FixesNothing w = w.fixed_days ≡ None

abbrev pub ListsNoFixedDays : Bundle → Type 0
ListsNoFixedDays b = All FixesNothing b.week_data

-- no day of a nurse is fixed
abbrev pub NothingIsFixed : Meaning → Type 0
NothingIsFixed c = (n d : ℕ) → is_fixed c n d ≡ false

-- the row agrees with the nurse's present one on each day of the weeks before `from`
abbrev pub keeps_weeks_before : Meaning → ℕ → Rows → ℕ → Row → Bool
keeps_weeks_before c from r n row =
    all_below (day_count c)
    (λ d. not (nat_lt (d / 7) from) || same_choice (choice_on row d) (choice_on (row_of r n) d))

-- all rows, in order, with which the roster keeps the hard rules and that keep those days
abbrev pub rows_by_weeks : Meaning → ℕ → Rows → ℕ → List Row
rows_by_weeks c from r n =
    filter (λ row. keeps_hard c (with_row r n row) && keeps_weeks_before c from r n row)
    (all_rows (all_choices c) (day_count c))
