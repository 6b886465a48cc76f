-- The refusals of a bundle (our profile): a list of all faults in the order in which they count, which is
-- that of the text, except that too many states come after all other faults of the case, and before those of
-- the solutions.
use Rattle.std.specs.Prelude.{ℕ, ◌+◌, ◌*◌, not, ◌&&◌, ◌||◌, ◌==◌, nat_lt, List, ◌++◌, length, map, flat_map, codes}
use Rattle.std.specs.List.{enumerate_from, list_any}
use Rattle.roster_bundle.specs.declared.bundle.Assignment.{Assignment}
use Rattle.roster_bundle.specs.declared.bundle.Bundle.{Bundle}
use Rattle.roster_bundle.specs.declared.bundle.Contract.{Contract}
use Rattle.roster_bundle.specs.declared.bundle.History.{History}
use Rattle.roster_bundle.specs.declared.bundle.Listed.{Listed}
use Rattle.roster_bundle.specs.declared.bundle.Nurse.{Nurse}
use Rattle.roster_bundle.specs.declared.bundle.NurseDay.{NurseDay}
use Rattle.roster_bundle.specs.declared.bundle.NurseHistory.{NurseHistory}
use Rattle.roster_bundle.specs.declared.bundle.Request.{Request}
use Rattle.roster_bundle.specs.declared.bundle.Requirement.{Requirement}
use Rattle.roster_bundle.specs.declared.bundle.ShiftType.{ShiftType}
use Rattle.roster_bundle.specs.declared.bundle.Solution.{Solution}
use Rattle.roster_bundle.specs.declared.bundle.Succession.{Succession}
use Rattle.roster_bundle.specs.declared.bundle.WeekData.{WeekData}
use Rattle.roster_bundle.specs.declared.token.Token.{Token}
use Rattle.roster_bundle.specs.Token.{text_of}
use Rattle.roster_instance.specs.declared.fault.CaseFault.{CaseFault}
use Rattle.roster_instance.specs.declared.fault.CaseFault.TheVariants.{Repeated, Unknown, Reserved, OtherInstance, HistoryWeek, HistoryNurses, RepeatedRequirement, Limit, TooManyStates, H1}
use Rattle.roster_bundle.specs.Weekdays.{weekday}
use Rattle.roster_instance.specs.Bundles.{Names, lines_of, meaning_of}
use Rattle.roster_instance.specs.Faults.{fault_if, each}
use Rattle.roster_instance.specs.Meaning.{Meaning}
use Rattle.roster_instance.specs.Names.{same_name, reads, skill_names, shift_names, contract_names, nurse_names, is_known, name_number}
use Rattle.roster_instance.specs.Limits.{most_contracts, most_nurses, most_shifts, most_skills, most_states, most_weeks}
use Rattle.roster_instance.specs.Sizes.{state_count}

-- ---- what a section is checked with: the bytes of the source, and names that came before

-- one list of names
pub record Among : Type 0 where
  pub source : List ℕ
  pub names : Names

-- the names that a nurse's line may use
pub record AmongStaff : Type 0 where
  pub source : List ℕ
  pub contracts : Names
  pub skills : Names

-- what the scenario gives to the texts after it: its name, and its other names
pub record Known : Type 0 where
  pub source : List ℕ
  pub name : List ℕ
  pub nurses : Names
  pub shifts : Names
  pub skills : Names

-- the same for the lines of one week's solution
pub record KnownInWeek : Type 0 where
  pub known : Known
  pub week : ℕ

-- by the scenario of a bundle; below, by a case
abbrev pub known_in : List ℕ → Bundle → Known
known_in source b = record {
  source = source;
  name = text_of source b.scenario.name;
  nurses = nurse_names source b;
  shifts = shift_names source b;
  skills = skill_names source b;
}

abbrev pub known_by : List ℕ → Meaning → Known
known_by source c = record {
  source = source;
  name = c.name;
  nurses = c.nurse_names;
  shifts = c.shift_names;
  skills = c.skill_names;
}

-- ---- the faults of one token

-- a count is from 1 to its limit
abbrev pub limit_fault : ℕ → Token → ℕ → List CaseFault
limit_fault limit t n = fault_if ((n == 0) || nat_lt limit n) (Limit t.line)

-- the name is among these already
abbrev pub repeated_fault : List ℕ → List Token → Token → List CaseFault
repeated_fault source earlier t = fault_if (list_any (same_name source t) earlier) (Repeated t.line)

-- the name is none of these
abbrev pub unknown_fault : List ℕ → Names → Token → List CaseFault
unknown_fault source names t = fault_if (not (is_known source names t)) (Unknown t.line)

-- it is neither the one word that may be used instead of a name, nor one of these names
abbrev pub unknown_unless : List ℕ → List ℕ → Names → Token → List CaseFault
unknown_unless source word names t =
    fault_if (not (reads source word t || is_known source names t)) (Unknown t.line)

-- a shift may not have a name that means something else in requests or in the history
abbrev pub reserved_fault : List ℕ → Token → List CaseFault
reserved_fault source t =
    fault_if (reads source (codes "Any") t || reads source (codes "None") t) (Reserved t.line)

-- it is not the scenario's name
abbrev pub instance_fault : List ℕ → List ℕ → Token → List CaseFault
instance_fault source name t = fault_if (not (reads source name t)) (OtherInstance t.line)

-- ---- the scenario

abbrev pub shift_faults : List ℕ → List ShiftType → ShiftType → List CaseFault
shift_faults source earlier s =
    repeated_fault source (map (λ (e : ShiftType). e.name) earlier) s.name ++ reserved_fault source s.name

abbrev pub succession_faults : List ℕ → Names → List Succession → Succession → List CaseFault
succession_faults source shifts earlier l =
    unknown_fault source shifts l.shift
    ++ repeated_fault source (map (λ (e : Succession). e.shift) earlier) l.shift
    ++ flat_map (unknown_fault source shifts) l.forbidden

abbrev pub contract_faults : List ℕ → List Contract → Contract → List CaseFault
contract_faults source earlier c = repeated_fault source (map (λ (e : Contract). e.name) earlier) c.name

abbrev pub own_skill_faults : List ℕ → Names → List Token → Token → List CaseFault
own_skill_faults source skills earlier t = unknown_fault source skills t ++ repeated_fault source earlier t

abbrev pub nurse_faults : List ℕ → Names → Names → List Nurse → Nurse → List CaseFault
nurse_faults source contracts skills earlier n =
    repeated_fault source (map (λ (e : Nurse). e.name) earlier) n.name
    ++ unknown_fault source contracts n.contract
    ++ each (own_skill_faults source skills) n.skills

-- a section with its count
abbrev pub listed_faults : {A : Type 0} → ℕ → (List A → A → List CaseFault) → Listed A → List CaseFault
listed_faults limit faults section =
    limit_fault limit section.count (length section.items) ++ each faults section.items

-- the shifts, then the lines of successions
abbrev pub faults_of_shifts : List ℕ → Bundle → List CaseFault
faults_of_shifts source b =
    listed_faults most_shifts (shift_faults source) b.scenario.shifts
    ++ each (succession_faults source (shift_names source b)) b.scenario.successions

-- the contracts, then the nurses
abbrev pub faults_of_staff : List ℕ → Bundle → List CaseFault
faults_of_staff source b =
    listed_faults most_contracts (contract_faults source) b.scenario.contracts
    ++ listed_faults most_nurses
    (nurse_faults source (contract_names source b) (skill_names source b)) b.scenario.nurses

-- all refusals of the scenario, in the order of its text
abbrev pub scenario_faults : List ℕ → Bundle → List CaseFault
scenario_faults source b =
    limit_fault most_weeks b.scenario.weeks.token b.scenario.weeks.value
    ++ listed_faults most_skills (repeated_fault source) b.scenario.skills
    ++ faults_of_shifts source b
    ++ faults_of_staff source b

-- ---- the history

abbrev pub history_line_faults : List ℕ → Names → Names → List NurseHistory → NurseHistory → List CaseFault
history_line_faults source nurses shifts earlier h =
    unknown_fault source nurses h.nurse
    ++ fault_if (list_any (λ (e : NurseHistory). same_name source h.nurse e.nurse) earlier)
    (HistoryNurses h.nurse.line)
    ++ unknown_unless source (codes "None") shifts h.last_shift

-- all refusals of the history, in the order of its text
abbrev pub history_faults : Known → History → List CaseFault
history_faults known h =
    fault_if (nat_lt 0 h.week.value) (HistoryWeek h.week.token.line)
    ++ instance_fault known.source known.name h.scenario
    ++ each (history_line_faults known.source known.nurses known.shifts) h.nurses

-- ---- the weeks

abbrev pub requirement_faults : List ℕ → Names → Names → List Requirement → Requirement → List CaseFault
requirement_faults source shifts skills earlier q =
    unknown_fault source shifts q.shift
    ++ unknown_fault source skills q.skill
    ++ fault_if (list_any (λ (e : Requirement). same_name source q.shift e.shift
    && same_name source q.skill e.skill) earlier) (RepeatedRequirement q.skill.line)

abbrev pub request_faults : List ℕ → Names → Names → Request → List CaseFault
request_faults source nurses shifts q =
    unknown_fault source nurses q.nurse ++ unknown_unless source (codes "Any") shifts q.shift

-- the faults of a line of absences or of fixed days
abbrev pub day_faults : List ℕ → Names → NurseDay → List CaseFault
day_faults source nurses a = unknown_fault source nurses a.nurse

-- all refusals of a week's data, in the order of their text
abbrev pub week_faults : Known → WeekData → List CaseFault
week_faults known w =
    instance_fault known.source known.name w.scenario
    ++ each (requirement_faults known.source known.shifts known.skills) w.requirements
    ++ flat_map (request_faults known.source known.nurses known.shifts) w.off_requests.items
    ++ flat_map (request_faults known.source known.nurses known.shifts) (lines_of w.on_requests)
    ++ flat_map (day_faults known.source known.nurses) (lines_of w.absences)
    ++ flat_map (day_faults known.source known.nurses) (lines_of w.fixed_days)

-- ---- the states: only the first nurse with too many counts

-- the search for a nurse would have too many states
abbrev pub state_fault : Meaning → ℕ × Nurse → List CaseFault
state_fault c n = fault_if (nat_lt most_states (state_count c n.0)) (TooManyStates n.0 n.1.name)

-- all faults of the case
unfoldable pub case_faults : List ℕ → Bundle → List CaseFault
case_faults source b =
    scenario_faults source b
    ++ history_faults (known_in source b) b.history
    ++ flat_map (week_faults (known_in source b)) b.week_data
    ++ flat_map (state_fault (meaning_of source b)) (enumerate_from 0 b.scenario.nurses.items)

-- ---- the solutions, by the names of a case

-- a second line of a nurse and day is a fault, reported after its last token
abbrev pub assignment_faults : List ℕ → Names → Names → Names → ℕ → List Assignment → Assignment
    → List CaseFault
assignment_faults source nurses shifts skills i earlier a =
    unknown_fault source nurses a.nurse
    ++ unknown_fault source shifts a.shift
    ++ unknown_fault source skills a.skill
    ++ fault_if (list_any
    (λ (e : Assignment). same_name source a.nurse e.nurse && (weekday a.day == weekday e.day)) earlier)
    (H1 (name_number source nurses a.nurse) (7 * i + weekday a.day))

-- all refusals of a solution, in the order of its text
abbrev pub solution_faults : Known → ℕ × Solution → List CaseFault
solution_faults known s =
    instance_fault known.source known.name s.1.scenario
    ++ each (assignment_faults known.source known.nurses known.shifts known.skills s.0) s.1.assignments.items

-- all faults of the solutions
unfoldable pub roster_faults : List ℕ → Meaning → Bundle → List CaseFault
roster_faults source c b = flat_map (solution_faults (known_by source c)) (enumerate_from 0 b.solutions)

-- all faults of the four texts
abbrev pub all_faults : List ℕ → Bundle → List CaseFault
all_faults source b = case_faults source b ++ roster_faults source (meaning_of source b) b
