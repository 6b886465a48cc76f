-- Bundles without the section of absences, and the hard rules that are left for them: H1 to H4.
use Rattle.std.specs.Prelude.{◌≡◌, ℕ, false, ◌&&◌, List, ◌++◌, All, None, filter}
use Rattle.roster_bundle.specs.declared.bundle.Bundle.{Bundle}
use Rattle.roster_bundle.specs.declared.bundle.WeekData.{WeekData}
use Rattle.roster_instance.specs.Choices.{all_choices, all_rows}
use Rattle.roster_instance.specs.Faults.{is_none_of}
use Rattle.roster_instance.specs.Meaning.{Meaning, day_count, is_absent}
use Rattle.roster_instance.specs.Rosters.{Row, Rows, with_row}
use Rattle.roster_rules.specs.AllowedRows.{keeps_frozen_days}
use Rattle.roster_rules.specs.HardRules.{skill_faults, staffing_faults, succession_faults}
use Rattle.roster_rules.specs.declared.fault.HardFault.{HardFault}

-- the week doesn't have the section; below, no week of the bundle has it
abbrev pub HasNoSection : WeekData → Type 0
HasNoSection w = w.absences ≡ None

abbrev pub ListsNoAbsences : Bundle → Type 0
ListsNoAbsences b = All HasNoSection b.week_data

-- no nurse is absent on a day
abbrev pub NobodyIsAbsent : Meaning → Type 0
NobodyIsAbsent c = (n d : ℕ) → is_absent c n d ≡ false

-- the breaches of H1 to H4 in their order; no roster breaks H1, by its form, so H1 is checked in the lines of
-- the texts
abbrev pub first_four_faults : Meaning → Rows → List HardFault
first_four_faults c r = staffing_faults c r ++ succession_faults c r ++ skill_faults c r

-- all rows, in order, with which the roster keeps H1 to H4 and the nurse's frozen days
abbrev pub rows_by_first_four : Meaning → ℕ → Rows → ℕ → List Row
rows_by_first_four c from r n =
    filter (λ row. is_none_of (first_four_faults c (with_row r n row)) && keeps_frozen_days c from r n row)
    (all_rows (all_choices c) (day_count c))
