-- The meaning of a bundle in which nothing is refused (INRC-II; the reading of a history line, and (0,0) for
-- a slot without a requirement line, are our profile).
use Rattle.std.specs.Prelude.{ℕ, ◌+◌, ◌*◌, ◌/◌, ◌%◌, Bool, not, ◌&&◌, ◌==◌, if◌then◌else◌, List, [], ◌∷◌, length, map, codes, Option, Some, None, option_and_then, option_map, slice_index_or, unwrap_or}
use Rattle.std.specs.List.{list_any, range_with_len}
use Rattle.roster_bundle.specs.declared.bundle.Assignment.{Assignment}
use Rattle.roster_bundle.specs.declared.bundle.Bundle.{Bundle}
use Rattle.roster_bundle.specs.declared.bundle.Contract.{Contract}
use Rattle.roster_bundle.specs.declared.bundle.Listed.{Listed}
use Rattle.roster_bundle.specs.declared.bundle.Nurse.{Nurse}
use Rattle.roster_bundle.specs.declared.bundle.NurseDay.{NurseDay}
use Rattle.roster_bundle.specs.declared.bundle.NurseHistory.{NurseHistory}
use Rattle.roster_bundle.specs.declared.bundle.Request.{Request}
use Rattle.roster_bundle.specs.declared.bundle.Pair.{Pair}
use Rattle.roster_bundle.specs.declared.bundle.Requirement.{Requirement}
use Rattle.roster_bundle.specs.declared.bundle.ShiftType.{ShiftType}
use Rattle.roster_bundle.specs.declared.bundle.Solution.{Solution}
use Rattle.roster_bundle.specs.declared.bundle.Succession.{Succession}
use Rattle.roster_bundle.specs.declared.bundle.WeekData.{WeekData}
use Rattle.roster_bundle.specs.declared.bundle.WeekPairs.{WeekPairs}
use Rattle.roster_bundle.specs.declared.token.Token.{Token}
use Rattle.roster_bundle.specs.Weekdays.{weekday}
use Rattle.roster_bundle.specs.Token.{text_of}
use Rattle.roster_instance.specs.declared.choice.Choice.{Choice}
use Rattle.roster_instance.specs.declared.choice.Choice.TheVariants.{Off, Work}
use Rattle.roster_instance.specs.declared.choice.Shift.{Shift}
use Rattle.roster_instance.specs.declared.choice.Skill.{Skill}
use Rattle.roster_instance.specs.declared.rules.Border.{Border}
use Rattle.roster_instance.specs.declared.rules.Border.TheVariants.{Free, Working}
use Rattle.roster_instance.specs.declared.rules.ContractRules.{ContractRules}
use Rattle.roster_instance.specs.declared.rules.DayRequests.{DayRequests}
use Rattle.roster_instance.specs.declared.rules.Limits.{Limits}
use Rattle.roster_instance.specs.declared.rules.Need.{Need}
use Rattle.roster_instance.specs.declared.rules.Past.{Past}
use Rattle.roster_instance.specs.Meaning.{Meaning, NurseFacts, WeekFacts, nurse_count, shift_at, skill_at}
use Rattle.roster_instance.specs.Names.{reads, skill_names, shift_names, contract_names, nurse_names, found, name_number, has_number}
use Rattle.roster_instance.specs.Rosters.{Row, Rows}
use Rattle.roster_instance.specs.Tables.{is_at, table_of}

-- In what follows `shifts`, `skills`, `contracts` and `nurses` are the names of the scenario, in its order.

-- ---- numbers

abbrev pub Names : Type 0
Names = List (List ℕ)

abbrev pub limits_of : Pair → Limits
limits_of p = record { least = p.least; greatest = p.greatest }

abbrev pub need_of : Pair → Need
need_of p = record { minimum = p.least; optimum = p.greatest }

abbrev pub needs_of_week : WeekPairs → List Need
needs_of_week w =
    map need_of (w.monday ∷ w.tuesday ∷ w.wednesday ∷ w.thursday ∷ w.friday ∷ w.saturday ∷ w.sunday ∷ [])

abbrev pub shift_named : List ℕ → Names → Token → Shift
shift_named source shifts t = shift_at (name_number source shifts t)

abbrev pub skill_named : List ℕ → Names → Token → Skill
skill_named source skills t = skill_at (name_number source skills t)

-- ---- shifts, contracts, nurses

-- a flag for each number below 8: one of the tokens has the name with this number
abbrev pub numbers_among : List ℕ → Names → List Token → List Bool
numbers_among source names ts = map (λ n. list_any (has_number source names n) ts) (range_with_len 0 8)

-- for each shift the shifts that its line of successions names
abbrev pub successions_meant : List ℕ → Names → List Succession → List (Option (List Bool))
successions_meant source shifts ls =
    table_of (λ (l : Succession). found source shifts l.shift)
    (λ (l : Succession). numbers_among source shifts l.forbidden) (length shifts) ls

-- a contract's numbers; weekends are to be complete if its flag is 1
abbrev pub contract_meant : Contract → ContractRules
contract_meant c = record {
  total = limits_of c.total;
  working = limits_of c.working;
  free = limits_of c.free;
  weekends = c.weekends;
  whole_weekends = c.complete_weekends == 1;
}

-- the number of the contract, and the skills in the order of the line
abbrev pub nurse_meant : List ℕ → Names → Names → Nurse → NurseFacts
nurse_meant source contracts skills n =
    record
    { contract = name_number source contracts n.contract; skills = map (skill_named source skills) n.skills }

-- ---- the history

-- if the last shift is `None`, only the days off count, else only the run of that shift and the working days
abbrev pub border_meant : List ℕ → Names → NurseHistory → Border
border_meant source shifts h =
    if reads source (codes "None") h.last_shift
    then Free h.free_run
    else Working (shift_named source shifts h.last_shift) h.shift_run h.working_run

-- what a history line says of a nurse
abbrev pub line_meant : List ℕ → Names → NurseHistory → Past
line_meant source shifts h =
    record { border = border_meant source shifts h; assignments = h.assignments; weekends = h.weekends }

-- for each nurse what the nurse's line says, if there is one
abbrev pub past_meant : List ℕ → Names → Names → List NurseHistory → List (Option Past)
past_meant source nurses shifts hs =
    table_of (λ (h : NurseHistory). found source nurses h.nurse) (line_meant source shifts) (length nurses) hs

-- ---- the weeks

-- the index of a shift and skill
abbrev pub index_of_need : List ℕ → Names → Names → Requirement → Option ℕ
index_of_need source shifts skills q =
    option_and_then (λ s. option_map (λ k. 8 * s + k) (found source skills q.skill))
    (found source shifts q.shift)

-- for each shift and skill the pairs of the first line that has them
abbrev pub needs_meant : List ℕ → Names → Names → List Requirement → List (Option (List Need))
needs_meant source shifts skills qs =
    table_of (index_of_need source shifts skills) (λ (q : Requirement). needs_of_week q.days) 64 qs

-- the index of a nurse and weekday
abbrev pub index_of_request : List ℕ → Names → Request → Option ℕ
index_of_request source nurses q = option_map (λ n. 7 * n + weekday q.day) (found source nurses q.nurse)

-- the request says `Any`, or it names the shift with this number
abbrev pub says_any : List ℕ → Request → Bool
says_any source q = reads source (codes "Any") q.shift

abbrev pub names_shift : List ℕ → Names → ℕ → Request → Bool
names_shift source shifts s q = not (says_any source q) && has_number source shifts s q.shift

-- what the requests of a nurse and weekday name: whether one says `Any`, and for each shift number whether
-- one names that shift
abbrev pub requests_at : List ℕ → Names → Names → List Request → ℕ → DayRequests
requests_at source nurses shifts qs p = record {
  any = list_any (λ q. is_at p (index_of_request source nurses q) && says_any source q) qs;
  shifts =
      map (λ s. list_any (λ q. is_at p (index_of_request source nurses q)
      && names_shift source shifts s q) qs) (range_with_len 0 8);
}

unfoldable pub requests_meant : List ℕ → Names → Names → List Request → List DayRequests
requests_meant source nurses shifts qs =
    map (requests_at source nurses shifts qs) (range_with_len 0 (7 * length nurses))

-- the index of a nurse and weekday
abbrev pub index_of_day : List ℕ → Names → NurseDay → Option ℕ
index_of_day source nurses a = option_map (λ n. 7 * n + weekday a.day) (found source nurses a.nurse)

-- some line is of this nurse and weekday
abbrev pub has_line : List ℕ → Names → List NurseDay → ℕ → Bool
has_line source nurses lines p = list_any (λ a. is_at p (index_of_day source nurses a)) lines

-- for each nurse and weekday whether a line has them
unfoldable pub days_meant : List ℕ → Names → List NurseDay → List Bool
days_meant source nurses lines = map (has_line source nurses lines) (range_with_len 0 (7 * length nurses))

-- the lines of a section that may be absent
abbrev pub lines_of : {T : Type 0} → Option (Listed T) → List T
lines_of None = []
lines_of (Some section) = section.items

-- a week: its requirements, its requests, its absences and its fixed days
abbrev pub week_meant : List ℕ → Names → Names → Names → WeekData → WeekFacts
week_meant source shifts skills nurses w = record {
  needs = needs_meant source shifts skills w.requirements;
  off_requests = requests_meant source nurses shifts w.off_requests.items;
  wishes = requests_meant source nurses shifts (lines_of w.on_requests);
  absences = days_meant source nurses (lines_of w.absences);
  fixed = days_meant source nurses (lines_of w.fixed_days);
}

-- ---- the case

-- the case that a bundle means; it is used only if nothing in the bundle is refused
unfoldable pub meaning_of : List ℕ → Bundle → Meaning
meaning_of source b = record {
  name = text_of source b.scenario.name;
  skill_names = skill_names source b;
  shift_names = shift_names source b;
  runs = map (λ (s : ShiftType). limits_of s.run) b.scenario.shifts.items;
  successions = successions_meant source (shift_names source b) b.scenario.successions;
  contract_names = contract_names source b;
  contracts = map contract_meant b.scenario.contracts.items;
  nurse_names = nurse_names source b;
  nurses = map (nurse_meant source (contract_names source b) (skill_names source b)) b.scenario.nurses.items;
  past = past_meant source (nurse_names source b) (shift_names source b) b.history.nurses;
  weeks =
      map
      (week_meant source (shift_names source b) (skill_names source b) (nurse_names source b)) b.week_data;
  base = [];
  keep = 0;
}

-- ---- the roster, by the names of a case

-- the index of a nurse and weekday
abbrev pub index_of_line : List ℕ → Names → Assignment → Option ℕ
index_of_line source nurses a = option_map (λ n. 7 * n + weekday a.day) (found source nurses a.nurse)

-- the shift and the skill of a line, by the names of the case
abbrev pub work_meant : List ℕ → Names → Names → Assignment → Choice
work_meant source shifts skills a =
    Work (shift_named source shifts a.shift) (skill_named source skills a.skill)

-- for each nurse and weekday what a line of the solution says
abbrev pub solution_meant : List ℕ → Names → Names → Names → Solution → List (Option Choice)
solution_meant source nurses shifts skills s =
    table_of (index_of_line source nurses) (work_meant source shifts skills)
    (7 * length nurses) s.assignments.items

-- solution i is that of week i, and without a line the nurse is off
abbrev pub choice_meant : List (List (Option Choice)) → ℕ → ℕ → Choice
choice_meant weeks n d = unwrap_or (slice_index_or (slice_index_or weeks (d / 7) []) (7 * n + d % 7) None) Off

-- a nurse's choice on each day
abbrev pub row_meant : List (List (Option Choice)) → ℕ → Row
row_meant weeks n = map (choice_meant weeks n) (range_with_len 0 (7 * length weeks))

-- the roster that a bundle means, by the names of a case, which needn't be the bundle's own
unfoldable pub rows_of : List ℕ → Meaning → Bundle → Rows
rows_of source c b =
    map (row_meant (map (solution_meant source c.nurse_names c.shift_names c.skill_names) b.solutions))
    (range_with_len 0 (nurse_count c))
