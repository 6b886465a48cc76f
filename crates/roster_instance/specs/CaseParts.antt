-- The parts from which a case is built.
use Rattle.std.specs.Prelude.{◌≡◌, ℕ, ◌<◌, ◌≤◌, List, [], ◌++◌, flat_map, length, map, Option, IfSome, slice_index_or, slice_set, true}
use Rattle.std.specs.List.{enumerate_from}
use Rattle.roster_bundle.specs.declared.bundle.Bundle.{Bundle}
use Rattle.roster_bundle.specs.declared.bundle.ShiftType.{ShiftType}
use Rattle.roster_bundle.specs.Token.{text_of}
use Rattle.roster_instance.specs.declared.fault.CaseFault.{CaseFault}
use Rattle.roster_instance.specs.declared.rules.DayRequests.{DayRequests}
use Rattle.roster_instance.specs.declared.rules.Past.{Past}
use Rattle.roster_instance.specs.declared.scenario.Scenario.{Scenario}
use Rattle.roster_instance.specs.Bundles.{contract_meant, limits_of, nurse_meant, successions_meant}
use Rattle.roster_instance.specs.Meaning.{Meaning, WeekFacts, last_shift, no_requests, nurse_count, past_of, shift_count}
use Rattle.roster_instance.specs.Names.{contract_names, nurse_names, shift_names, skill_names}
use Rattle.roster_instance.specs.Limits.{most_states}
use Rattle.roster_instance.specs.Refusals.{Known, history_faults, state_fault, week_faults}
use Rattle.roster_instance.specs.Rosters.{Rows}
use Rattle.roster_instance.specs.Sizes.{state_count}
use Rattle.roster_instance.specs.Small.{HasSmallNumbers}

-- what a scenario is built from
pub record IsScenarioOf (source : List ℕ) (b : Bundle) (s : Scenario) : Type 0 where
  pub name_is : s.name.items ≡ text_of source b.scenario.name
  pub skills_are : s.skills ≡ skill_names source b
  pub shifts_are : s.shifts ≡ shift_names source b
  pub runs_are : s.runs.items ≡ map (λ (t : ShiftType). limits_of t.run) b.scenario.shifts.items
  pub successions_are : s.successions ≡ successions_meant source (shift_names source b) b.scenario.successions
  pub contracts_are : s.contracts ≡ contract_names source b
  pub rules_are : s.contract_rules.items ≡ map contract_meant b.scenario.contracts.items
  pub nurses_are : s.nurses ≡ nurse_names source b
  pub facts_are : s.nurse_rules.items
      ≡ map (nurse_meant source (contract_names source b) (skill_names source b)) b.scenario.nurses.items

-- the names of the scenario, by which the texts after it are checked
abbrev pub known_of : List ℕ → Scenario → Known
known_of source s = record {
  source = source;
  name = s.name.items;
  nurses = s.nurses;
  shifts = s.shifts;
  skills = s.skills;
}

-- the same requests, and one that says `Any`
abbrev pub with_any : DayRequests → DayRequests
with_any r = record { any = true; shifts = r.shifts }

-- the same requests, and one that names this shift
abbrev pub with_shift : ℕ → DayRequests → DayRequests
with_shift shift r = record { any = r.any; shifts = slice_set r.shifts shift true }

-- the requests with this index are replaced
abbrev pub requests_with : ℕ → (DayRequests → DayRequests) → List DayRequests → List DayRequests
requests_with index change requests =
    slice_set requests index (change (slice_index_or requests index no_requests))

-- the case that is built from these parts
abbrev pub case_of : Scenario → List (Option Past) → List WeekFacts → Meaning
case_of s past weeks = record {
  name = s.name.items;
  skill_names = s.skills;
  shift_names = s.shifts;
  runs = s.runs.items;
  successions = s.successions;
  contract_names = s.contracts;
  contracts = s.contract_rules.items;
  nurse_names = s.nurses;
  nurses = s.nurse_rules.items;
  past = past;
  weeks = weeks;
  base = [];
  keep = 0;
}

-- the same with a roster that is kept
abbrev pub case_with : Scenario → List (Option Past) → List WeekFacts → Rows → ℕ → Meaning
case_with s past weeks base keep = record (case_of s past weeks) { base = base; keep = keep }

-- the faults after the scenario: of the history, of the weeks, and too many states
abbrev pub faults_after : List ℕ → Bundle → Scenario → List CaseFault
faults_after source b s =
    history_faults (known_of source s) b.history
    ++ flat_map (week_faults (known_of source s)) b.week_data
    ++ flat_map (state_fault (case_of s [] [])) (enumerate_from 0 b.scenario.nurses.items)

-- no nurse's search has too many states
abbrev pub HasFewStates : Meaning → Type 0
HasFewStates c = (n : ℕ) → n < nurse_count c → state_count c n ≤ most_states

-- the last shift of each nurse's history, if there is one, is a shift of the case
abbrev pub HasKnownPast : Meaning → Type 0
HasKnownPast c = (n : ℕ) → IfSome (last_shift (past_of c n).border) (λ s. s.0 < shift_count c)

-- what holds of the parts of each case: a week for each that the scenario counts, few states, small numbers,
-- a known past
pub record AreCaseParts (s : Scenario) (past : List (Option Past)) (weeks : List WeekFacts) (base : Rows)
    (keep : ℕ) : Type 0 where
  pub all_weeks : length weeks ≡ s.weeks
  pub few_states : HasFewStates (case_with s past weeks base keep)
  pub small : HasSmallNumbers (case_with s past weeks base keep)
  pub known_past : HasKnownPast (case_with s past weeks base keep)
