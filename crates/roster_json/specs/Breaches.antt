-- The breaches of the hard rules as JSON.
use Rattle.std.specs.Prelude.{ℕ, ◌/◌, ◌%◌, ◌∷◌, Bool, List, [], codes, flat_map, nat_lt, not}
use Rattle.roster_bundle.specs.Canonical.{weekday_text}
use Rattle.roster_instance.specs.Faults.{below, fault_if}
use Rattle.roster_instance.specs.Meaning.{Meaning, day_count, minimum, nurse_count, nurse_name, shift_count, skill_count}
use Rattle.roster_instance.specs.Rosters.{Rows, days_of_nurse, row_of}
use Rattle.roster_instance.specs.declared.choice.Shift.{Shift}
use Rattle.roster_instance.specs.declared.choice.Skill.{Skill}
use Rattle.roster_rules.specs.HardRules.{breaks_succession, is_able_on, is_here_on, staffing_fault}
use Rattle.roster_rules.specs.declared.fault.HardFault.{HardFault}
use Rattle.roster_rules.specs.declared.fault.HardFault.TheVariants.{H2, H3, H4, Absent}
use Rattle.roster_reports.specs.Lines.{Text, shift_name, skill_name}
use Rattle.roster_json.specs.Json.{name, number, object_line}
use Rattle.roster_json.specs.declared.breaches.NurseRule.{NurseRule}
use Rattle.roster_json.specs.declared.breaches.NurseRule.TheVariants as rule

-- a nurse breaks a rule on a day
abbrev pub nurse_line : Meaning → Text → ℕ → ℕ → Text
nurse_line c word nurse day =
    object_line (codes "breach")
    (name (codes "rule") word ∷ number (codes "day") day ∷ number (codes "week") (day / 7)
    ∷ name (codes "weekday") (weekday_text (day % 7)) ∷ number (codes "nurse") nurse
    ∷ name (codes "nurse_name") (nurse_name c nurse) ∷ [])

-- the line of a breach; days, weeks and what has a name are numbered from 0
abbrev pub breach_line : Meaning → HardFault → Text
breach_line c (H2 day shift skill have need) =
    object_line (codes "breach")
    (name (codes "rule") (codes "H2") ∷ number (codes "day") day ∷ number (codes "week") (day / 7)
    ∷ name (codes "weekday") (weekday_text (day % 7)) ∷ number (codes "shift") shift.0
    ∷ name (codes "shift_name") (shift_name c shift.0) ∷ number (codes "skill") skill.0
    ∷ name (codes "skill_name") (skill_name c skill.0) ∷ number (codes "have") have
    ∷ number (codes "need") need ∷ [])
breach_line c (H3 nurse day) = nurse_line c (codes "H3") nurse day
breach_line c (H4 nurse day) = nurse_line c (codes "H4") nurse day
breach_line c (Absent nurse day) = nurse_line c (codes "absent") nurse day

-- a line for each of these breaches, in their order
abbrev pub breaches_text : Meaning → List HardFault → Text
breaches_text c faults = flat_map (breach_line c) faults

-- ---- slots

-- the breach if that many nurses are fewer than the minimum
abbrev pub slot_fault : Meaning → (day : ℕ) → Shift → Skill → (have : ℕ) → List HardFault
slot_fault c day shift skill have =
    let least = minimum c day shift.0 skill.0 in
    fault_if (nat_lt have least) (H2 day shift skill have least)

-- the slots of a day with too few nurses, by shift and skill
abbrev pub staffing_faults_on : Meaning → Rows → ℕ → List HardFault
staffing_faults_on c r day =
    below (shift_count c) (λ s. below (skill_count c) (λ k. staffing_fault c r day s k))

-- ---- the rules that a nurse's row can break

abbrev pub rule_word : NurseRule → Text
rule_word rule.Succession = codes "H3"
rule_word rule.Skill = codes "H4"
rule_word rule.Absence = codes "absent"

abbrev pub breach_of : NurseRule → ℕ → ℕ → HardFault
breach_of rule.Succession nurse day = H3 nurse day
breach_of rule.Skill nurse day = H4 nurse day
breach_of rule.Absence nurse day = Absent nurse day

-- the row breaks the rule on the day
abbrev pub breaks : Meaning → Rows → NurseRule → ℕ → ℕ → Bool
breaks c r rule.Succession nurse day = breaks_succession c nurse (days_of_nurse r nurse) day
breaks c r rule.Skill nurse day = not (is_able_on c nurse (row_of r nurse) day)
breaks c r rule.Absence nurse day = not (is_here_on c nurse (row_of r nurse) day)

abbrev pub fault_on : Meaning → Rows → NurseRule → ℕ → ℕ → List HardFault
fault_on c r rule nurse day = fault_if (breaks c r rule nurse day) (breach_of rule nurse day)

-- the breaches of a nurse's row, by day
abbrev pub faults_of : Meaning → Rows → NurseRule → ℕ → List HardFault
faults_of c r rule nurse = below (day_count c) (fault_on c r rule nurse)

-- the same of all rows, by nurse
abbrev pub faults_by : Meaning → Rows → NurseRule → List HardFault
faults_by c r rule = below (nurse_count c) (faults_of c r rule)
