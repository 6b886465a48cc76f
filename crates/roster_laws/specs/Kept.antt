-- The number of days on which a roster differs from the roster that is kept.
use Rattle.std.specs.Prelude.{ℕ, not, length}
use Rattle.roster_instance.specs.Choices.{shift_of}
use Rattle.roster_instance.specs.Counting.{count_below, sum_below}
use Rattle.roster_instance.specs.Days.{shift_on}
use Rattle.roster_instance.specs.Meaning.{Meaning, nurse_count}
use Rattle.roster_instance.specs.Rosters.{Rows, choice_on, days_of_nurse, row_of}
use Rattle.roster_rules.specs.Penalties.{same_shift}

-- the number of days on which a nurse's shift, or that she is off, differs between two rosters
abbrev pub changed_days_of : Rows → Rows → ℕ → ℕ
changed_days_of rows r n =
    count_below (length (days_of_nurse r n))
    (λ d. not (same_shift (shift_of (choice_on (row_of rows n) d)) (shift_on (days_of_nurse r n) d)))

-- the same for all nurses together
abbrev pub changed_days : Meaning → Rows → Rows → ℕ
changed_days c rows r = sum_below (nurse_count c) (changed_days_of rows r)
