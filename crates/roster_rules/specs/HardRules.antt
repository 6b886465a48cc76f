-- The hard rules (INRC-II), and the list of their breaches in order: first slots with too few nurses, by day,
-- shift and skill; then forbidden successions by nurse and day, including that from the history's last shift
-- to day 0 (profile); then skills that a nurse doesn't have, by nurse and day; then work of absent nurses, by
-- nurse and day (our own). Every roster has at most one shift for a nurse on a day, by its form.
use Rattle.std.specs.Prelude.{◌≡◌, ℕ, ◌-◌, Bool, true, not, ◌&&◌, ◌==◌, nat_lt, List, [], ◌++◌, if◌then◌else◌, Option}
use Rattle.std.specs.List.{list_any}
use Rattle.roster_instance.specs.declared.choice.Choice.{Choice}
use Rattle.roster_instance.specs.declared.choice.Choice.TheVariants.{Off, Work}
use Rattle.roster_instance.specs.declared.choice.Shift.{Shift}
use Rattle.roster_instance.specs.declared.choice.Skill.{Skill}
use Rattle.roster_rules.specs.declared.fault.HardFault.{HardFault}
use Rattle.roster_rules.specs.declared.fault.HardFault.TheVariants.{H2, H3, H4, Absent}
use Rattle.roster_instance.specs.Counting.{all_below}
use Rattle.roster_instance.specs.Days.{Days, shift_on}
use Rattle.roster_instance.specs.Faults.{fault_if, below, is_none_of}
use Rattle.roster_instance.specs.Meaning.{Meaning, day_count, forbids, is_absent, shift_count, skill_count, nurse_count, shift_at, skill_at, nurse_at, past_of, last_shift, minimum}
use Rattle.roster_instance.specs.Rosters.{Row, Rows, choice_on, row_of, days_of_nurse, cover}

-- the shift before a day: on day 0 the history's last
abbrev pub shift_before : Option Shift → Days → ℕ → Option Shift
shift_before last days d = if d == 0 then last else shift_on days (d - 1)

-- the nurse has the skill for the choice
abbrev pub is_able : List Skill → Choice → Bool
is_able skills Off = true
is_able skills (Work s k) = list_any (λ own. own.0 == k.0) skills

-- an absent nurse doesn't work
abbrev pub is_here : Meaning → ℕ → ℕ → Choice → Bool
is_here c n d Off = true
is_here c n d (Work s k) = not (is_absent c n d)

-- the nurse may have the choice on the day, by skills and absences
abbrev pub may_take : Meaning → ℕ → ℕ → Choice → Bool
may_take c n d choice = is_able (nurse_at c n).skills choice && is_here c n d choice

-- ---- a nurse's row: rules for a single day, and the same rules over m days

abbrev pub breaks_succession : Meaning → ℕ → Days → ℕ → Bool
breaks_succession c n days d =
    forbids c.successions (shift_before (last_shift (past_of c n).border) days d) (shift_on days d)

-- on none of m days the shift is forbidden by that of the day before, or by the history's last
abbrev pub keeps_successions : Meaning → ℕ → Days → ℕ → Bool
keeps_successions c n days m = all_below m (λ d. not (breaks_succession c n days d))

abbrev pub is_able_on : Meaning → ℕ → Row → ℕ → Bool
is_able_on c n row d = is_able (nurse_at c n).skills (choice_on row d)

-- on each of m days the nurse has the skill
abbrev pub keeps_skills : Meaning → ℕ → Row → ℕ → Bool
keeps_skills c n row m = all_below m (is_able_on c n row)

abbrev pub is_here_on : Meaning → ℕ → Row → ℕ → Bool
is_here_on c n row d = is_here c n d (choice_on row d)

-- on none of m days the nurse works in an absence
abbrev pub keeps_absences : Meaning → ℕ → Row → ℕ → Bool
keeps_absences c n row m = all_below m (is_here_on c n row)

-- ---- the breaches

abbrev pub staffing_fault : Meaning → Rows → ℕ → ℕ → ℕ → List HardFault
staffing_fault c r d s k =
    fault_if (nat_lt (cover r d s k) (minimum c d s k))
    (H2 d (shift_at s) (skill_at k) (cover r d s k) (minimum c d s k))

-- H2, by day, shift and skill
abbrev pub staffing_faults : Meaning → Rows → List HardFault
staffing_faults c r =
    below (day_count c)
    (λ d. below (shift_count c) (λ s. below (skill_count c) (λ k. staffing_fault c r d s k)))

abbrev pub succession_fault : Meaning → Rows → ℕ → ℕ → List HardFault
succession_fault c r n d = fault_if (breaks_succession c n (days_of_nurse r n) d) (H3 n d)

-- H3 on the first m days, by nurse and day
abbrev pub successions_before : Meaning → Rows → ℕ → List HardFault
successions_before c r m = below (nurse_count c) (λ n. below m (λ d. succession_fault c r n d))

-- H3 on all days
abbrev pub succession_faults : Meaning → Rows → List HardFault
succession_faults c r = successions_before c r (day_count c)

abbrev pub skill_fault : Meaning → Rows → ℕ → ℕ → List HardFault
skill_fault c r n d = fault_if (not (is_able_on c n (row_of r n) d)) (H4 n d)

-- H4, by nurse and day
abbrev pub skill_faults : Meaning → Rows → List HardFault
skill_faults c r = below (nurse_count c) (λ n. below (day_count c) (λ d. skill_fault c r n d))

abbrev pub absence_fault : Meaning → Rows → ℕ → ℕ → List HardFault
absence_fault c r n d = fault_if (not (is_here_on c n (row_of r n) d)) (Absent n d)

-- work of absent nurses on the first m days, by nurse and day
abbrev pub absences_before : Meaning → Rows → ℕ → List HardFault
absences_before c r m = below (nurse_count c) (λ n. below m (λ d. absence_fault c r n d))

-- the same on all days
abbrev pub absence_faults : Meaning → Rows → List HardFault
absence_faults c r = absences_before c r (day_count c)

-- all breaches in order
unfoldable pub hard_faults : Meaning → Rows → List HardFault
hard_faults c r = staffing_faults c r ++ succession_faults c r ++ skill_faults c r ++ absence_faults c r

-- the same as a test
abbrev pub keeps_hard : Meaning → Rows → Bool
keeps_hard c r = is_none_of (hard_faults c r)

-- the roster keeps the hard rules
abbrev pub KeepsHard : Meaning → Rows → Type 0
KeepsHard c r = hard_faults c r ≡ []
