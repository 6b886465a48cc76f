-- The number of nurses by which a roster falls short of its minimums (our own).
use Rattle.std.specs.Prelude.{ℕ, ◌&&◌, not}
use Rattle.roster_instance.specs.declared.choice.Choice.TheVariants.{Work}
use Rattle.roster_instance.specs.Choices.{same_choice}
use Rattle.roster_instance.specs.Counting.{count_below, sum_below}
use Rattle.roster_instance.specs.Meaning.{Meaning, day_count, is_absent, minimum, nurse_count, shift_at, skill_at}
use Rattle.roster_instance.specs.Rosters.{Rows, choice_on, row_of}
use Rattle.roster_laws.specs.Staffing.{shortfall}

-- how many nurses work a shift with a skill on a day, not counting absent ones
abbrev pub present : Meaning → Rows → ℕ → ℕ → ℕ → ℕ
present c r d s k =
    count_below (nurse_count c)
    (λ n. same_choice (choice_on (row_of r n) d) (Work (shift_at s) (skill_at k)) && not (is_absent c n d))

-- the shortfall of all days together
abbrev pub missing : Meaning → Rows → ℕ
missing c r = sum_below (day_count c) (λ d. shortfall c (minimum c d) (present c r d))
