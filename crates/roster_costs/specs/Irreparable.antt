-- Breaches that no repair can undo, since the frozen days stay (our own).
use Rattle.std.specs.Prelude.{ℕ, ◌-◌, ◌==◌, ◌++◌, ◌&&◌, Bool, true, not, List, [], if◌then◌else◌}
use Rattle.roster_instance.specs.Counting.{all_below}
use Rattle.roster_instance.specs.Faults.{below, fault_if}
use Rattle.roster_instance.specs.Meaning.{Meaning, day_count, nurse_count, shift_count, skill_count}
use Rattle.roster_instance.specs.Rosters.{Rows, days_of_nurse, row_of}
use Rattle.roster_rules.specs.AllowedRows.{is_frozen}
use Rattle.roster_rules.specs.HardRules.{breaks_succession, is_here_on, skill_faults, staffing_fault}
use Rattle.roster_rules.specs.declared.fault.HardFault.{HardFault}
use Rattle.roster_rules.specs.declared.fault.HardFault.TheVariants.{Absent, H3}

-- the day before stays: it is frozen, or the history
abbrev pub follows_frozen : Meaning → ℕ → (n d : ℕ) → Bool
follows_frozen c from n d = if d == 0 then true else is_frozen c from n (d - 1)

-- a nurse's forbidden successions on two frozen days, among the first m days
abbrev pub frozen_successions_of : Meaning → ℕ → Rows → (n m : ℕ) → List HardFault
frozen_successions_of c from r n m =
    below m (λ d. fault_if (follows_frozen c from n d && is_frozen c from n d
    && breaks_succession c n (days_of_nurse r n) d) (H3 n d))

-- those of all nurses, by nurse and day
abbrev pub frozen_successions : Meaning → ℕ → Rows → List HardFault
frozen_successions c from r = below (nurse_count c) (λ n. frozen_successions_of c from r n (day_count c))

-- a nurse's work in absences on frozen days, among the first m days
abbrev pub frozen_absences_of : Meaning → ℕ → Rows → (n m : ℕ) → List HardFault
frozen_absences_of c from r n m =
    below m (λ d. fault_if (is_frozen c from n d && not (is_here_on c n (row_of r n) d)) (Absent n d))

-- those of all nurses, by nurse and day
abbrev pub frozen_absences : Meaning → ℕ → Rows → List HardFault
frozen_absences c from r = below (nurse_count c) (λ n. frozen_absences_of c from r n (day_count c))

-- the day is frozen for each nurse
abbrev pub is_frozen_for_all : Meaning → ℕ → ℕ → Bool
is_frozen_for_all c from d = all_below (nurse_count c) (λ n. is_frozen c from n d)

-- the minimums that such a day falls short of, by shift and skill
abbrev pub frozen_minimums_on : Meaning → ℕ → Rows → (d : ℕ) → List HardFault
frozen_minimums_on c from r d =
    if is_frozen_for_all c from d
    then below (shift_count c) (λ s. below (skill_count c) (λ k. staffing_fault c r d s k)) else []

-- those of all days
abbrev pub frozen_minimums : Meaning → ℕ → Rows → List HardFault
frozen_minimums c from r = below (day_count c) (frozen_minimums_on c from r)

-- these, and the days on which a nurse doesn't have the skill, frozen or not
abbrev pub irreparable : Meaning → ℕ → Rows → List HardFault
irreparable c from r =
    skill_faults c r ++ frozen_successions c from r ++ frozen_absences c from r ++ frozen_minimums c from r
