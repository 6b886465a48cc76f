-- Reading from left to right: the value that was read and the tokens after it, or why and where reading
-- stops.
use Rattle.std.specs.Prelude.{◌≡◌, ℕ, zero, suc, Bool, false, ◌&&◌, ◌||◌, List, [], ◌∷◌, length, drop, codes, Option, Some, None, Result, Ok, Err, nat_le, if◌then◌else◌}
use Rattle.std.specs.List.{find}
use Rattle.std.specs.Str.{bytes_eq}
use Rattle.std.specs.Str.Parse.{digits_value}
use Rattle.roster_bundle.specs.declared.bundle.Assignment.{Assignment}
use Rattle.roster_bundle.specs.declared.bundle.Bundle.{Bundle}
use Rattle.roster_bundle.specs.declared.bundle.Contract.{Contract}
use Rattle.roster_bundle.specs.declared.bundle.Day.{Day}
use Rattle.roster_bundle.specs.declared.bundle.Day.TheVariants as days
use Rattle.roster_bundle.specs.declared.bundle.History.{History}
use Rattle.roster_bundle.specs.declared.bundle.Listed.{Listed}
use Rattle.roster_bundle.specs.declared.bundle.Number.{Number}
use Rattle.roster_bundle.specs.declared.bundle.Nurse.{Nurse}
use Rattle.roster_bundle.specs.declared.bundle.NurseDay.{NurseDay}
use Rattle.roster_bundle.specs.declared.bundle.NurseHistory.{NurseHistory}
use Rattle.roster_bundle.specs.declared.bundle.Request.{Request}
use Rattle.roster_bundle.specs.declared.bundle.Pair.{Pair}
use Rattle.roster_bundle.specs.declared.bundle.Requirement.{Requirement}
use Rattle.roster_bundle.specs.declared.bundle.Scenario.{Scenario}
use Rattle.roster_bundle.specs.declared.bundle.ShiftType.{ShiftType}
use Rattle.roster_bundle.specs.declared.bundle.Solution.{Solution}
use Rattle.roster_bundle.specs.declared.bundle.Succession.{Succession}
use Rattle.roster_bundle.specs.declared.bundle.WeekData.{WeekData}
use Rattle.roster_bundle.specs.declared.bundle.WeekPairs.{WeekPairs}
use Rattle.roster_text.specs.declared.fault.Keyword.{Keyword}
use Rattle.roster_text.specs.declared.fault.Keyword.TheVariants as keyword
use Rattle.roster_text.specs.declared.fault.TextFault.{TextFault}
use Rattle.roster_text.specs.declared.fault.TextFault.TheVariants as fault
use Rattle.roster_text.specs.declared.fault.What.{What}
use Rattle.roster_text.specs.declared.fault.What.TheVariants as what
use Rattle.roster_text.specs.declared.parser.Refusal.{Refusal}
use Rattle.roster_text.specs.declared.parser.Refusal.TheVariants.{Due, OutOfRange}
use Rattle.roster_text.specs.declared.parser.Stop.{Stop}
use Rattle.roster_text.specs.declared.parser.Stop.TheVariants as stop
use Rattle.roster_bundle.specs.declared.token.Token.{Token}
use Rattle.roster_bundle.specs.Token.{Seen}
use Rattle.roster_text.specs.Words.{keyword_text}
use Rattle.roster_text.specs.Grammar.{is_name, is_number}
use Rattle.roster_bundle.specs.Weekdays.{short, long}
use Rattle.roster_bundle.specs.Limits.{most_counted, most_small}

-- What reading gives: a value and the tokens that are left, or the refusal and the tokens from the refused
-- one on.
abbrev pub Read : Type 0 → Type 0
Read A = Result (A × List Seen) (Refusal × List Seen)

infixl 10 ◌>>=◌
abbrev pub ◌>>=◌ : {A B : Type 0} → Read A → (A × List Seen → Read B) → Read B
(Ok x) >>= f = f x
(Err e) >>= f = Err e

-- What a function returned and left is what reading gives, unless memory ran out.
abbrev pub Reads : {A : Type 0} → Result A Stop → List Seen → Read A → Type 0
Reads (Ok x) left read = read ≡ Ok (x, left)
Reads (Err stop.Memory) left read = Unit {0}
Reads (Err (stop.Refused r)) left read = read ≡ Err (r, left)

-- ---- one token

abbrev pub first_of : List Seen → Option Seen
first_of [] = None
first_of (t ∷ ts) = Some t

abbrev pub word_at : What → List ℕ → List Seen → Read (Unit {0})
word_at due text [] = Err (Due due, [])
word_at due text (t ∷ ts) = if bytes_eq t.text text then Ok (tt, ts) else Err (Due due, t ∷ ts)

abbrev pub key_at : Keyword → List Seen → Read (Unit {0})
key_at k ts = word_at (what.Keyword k) (keyword_text k) ts

abbrev pub name_at : List Seen → Read Token
name_at [] = Err (Due what.Name, [])
name_at (t ∷ ts) = if is_name t.text then Ok (t.token, ts) else Err (Due what.Name, t ∷ ts)

abbrev pub number_at : ℕ → List Seen → Read Number
number_at limit [] = Err (Due what.Number, [])
number_at limit (t ∷ ts) =
    if is_number t.text
    then (if nat_le (digits_value 10 t.text) limit then Ok
    (record { token = t.token; value = digits_value 10 t.text }, ts) else Err (OutOfRange, t ∷ ts))
    else Err (Due what.Number, t ∷ ts)

-- the value of a number, without its token
abbrev pub value_at : ℕ → List Seen → Read ℕ
value_at limit ts = do
  n ← number_at limit ts
  Ok (n.0.value, n.1)

abbrev pub small_at : List Seen → Read ℕ
small_at ts = value_at most_small ts

-- the days from Monday on
abbrev pub all_days : List Day
all_days =
    days.Monday ∷ days.Tuesday ∷ days.Wednesday ∷ days.Thursday ∷ days.Friday ∷ days.Saturday
    ∷ days.Sunday ∷ []

abbrev pub is_day : List ℕ → Day → Bool
is_day text d = bytes_eq text (short d) || bytes_eq text (long d)

-- the day that a text names, in either spelling
abbrev pub day_of : List ℕ → Option Day
day_of text = find (is_day text) all_days

abbrev pub day_or_stop : Option Day → Seen → List Seen → Read Day
day_or_stop (Some d) t ts = Ok (d, ts)
day_or_stop None t ts = Err (Due what.Day, t ∷ ts)

abbrev pub day_at : List Seen → Read Day
day_at [] = Err (Due what.Day, [])
day_at (t ∷ ts) = day_or_stop (day_of t.text) t ts

-- ---- several of a kind

-- n items, one after the other
unfoldable pub times_at : {A : Type 0} → (List Seen → Read A) → ℕ → List Seen → Read (List A)
times_at read zero ts = Ok ([], ts)
times_at read (suc n) ts = do
  first ← read ts
  others ← times_at read n first.1
  Ok (first.0 ∷ others.0, others.1)

-- a count, and as many items
unfoldable pub listed_at : {A : Type 0} → (List Seen → Read A) → List Seen → Read (Listed A)
listed_at read ts = do
  n ← number_at most_counted ts
  xs ← times_at read n.0.value n.1
  Ok (record { count = n.0.token; items = xs.0 }, xs.1)

-- a keyword, `=`, a count, and as many items
unfoldable pub section_at : {A : Type 0} → Keyword → (List Seen → Read A) → List Seen → Read (Listed A)
section_at k read ts = do
  a ← key_at k ts
  b ← word_at what.Equals (codes "=") a.1
  listed_at read b.1

-- the first token is the keyword
abbrev pub begins_with : Keyword → List Seen → Bool
begins_with k [] = false
begins_with k (t ∷ ts) = bytes_eq t.text (keyword_text k)

-- a section, if its keyword is next
unfoldable pub optional_at : {A : Type 0} → Keyword → (List Seen → Read A) → List Seen
    → Read (Option (Listed A))
optional_at k read ts =
    if begins_with k ts then (do
      xs ← section_at k read ts
      Ok (Some xs.0, xs.1)) else Ok (None, ts)

-- a count of names, and the names
unfoldable pub names_at : List Seen → Read (List Token)
names_at ts = do
  n ← value_at most_counted ts
  times_at name_at n.0 n.1

-- the tokens begin with the keyword and `=`
abbrev pub begins_section : Keyword → List Seen → Bool
begins_section k [] = false
begins_section k (t ∷ []) = false
begins_section k (t ∷ u ∷ ts) = bytes_eq t.text (keyword_text k) && bytes_eq u.text (codes "=")

-- lines up to the keyword and `=` of the next section, at most the given number
unfoldable pub until_with : {A : Type 0} → (List Seen → Read A) → Keyword → ℕ → List Seen → Read (List A)
until_with read k zero ts = Err (Due what.Name, ts)
until_with read k (suc n) ts =
    if begins_section k ts then Ok ([], drop 2 ts) else (do
      first ← read ts
      others ← until_with read k n first.1
      Ok (first.0 ∷ others.0, others.1))

-- each line takes at least one token, so there are at most as many lines as tokens
abbrev pub until_at : {A : Type 0} → (List Seen → Read A) → Keyword → List Seen → Read (List A)
until_at read k ts = until_with read k (suc (length ts)) ts

-- ---- the scenario

unfoldable pub pair_at : List Seen → Read Pair
pair_at ts = do
  a ← word_at what.Open (codes "(") ts
  least ← small_at a.1
  b ← word_at what.Comma (codes ",") least.1
  greatest ← small_at b.1
  c ← word_at what.Close (codes ")") greatest.1
  Ok (record { least = least.0; greatest = greatest.0 }, c.1)

unfoldable pub shift_type_at : List Seen → Read ShiftType
shift_type_at ts = do
  name ← name_at ts
  run ← pair_at name.1
  Ok (record { name = name.0; run = run.0 }, run.1)

unfoldable pub succession_at : List Seen → Read Succession
succession_at ts = do
  shift ← name_at ts
  forbidden ← names_at shift.1
  Ok (record { shift = shift.0; forbidden = forbidden.0 }, forbidden.1)

unfoldable pub contract_at : List Seen → Read Contract
contract_at ts = do
  name ← name_at ts
  total ← pair_at name.1
  working ← pair_at total.1
  free ← pair_at working.1
  weekends ← small_at free.1
  flag ← value_at 1 weekends.1
  Ok (
    record {
      name = name.0;
      total = total.0;
      working = working.0;
      free = free.0;
      weekends = weekends.0;
      complete_weekends = flag.0;
    },
    flag.1,
  )

unfoldable pub nurse_at : List Seen → Read Nurse
nurse_at ts = do
  name ← name_at ts
  contract ← name_at name.1
  skills ← names_at contract.1
  Ok (record { name = name.0; contract = contract.0; skills = skills.0 }, skills.1)

-- the scenario's name and its number of weeks
unfoldable pub title_at : List Seen → Read (Token × Number)
title_at ts = do
  a ← key_at keyword.Scenario ts
  b ← word_at what.Equals (codes "=") a.1
  name ← name_at b.1
  c ← key_at keyword.Weeks name.1
  d ← word_at what.Equals (codes "=") c.1
  weeks ← number_at most_counted d.1
  Ok ((name.0, weeks.0), weeks.1)

unfoldable pub scenario_at : List Seen → Read Scenario
scenario_at ts = do
  title ← title_at ts
  skills ← section_at keyword.Skills name_at title.1
  shifts ← section_at keyword.ShiftTypes shift_type_at skills.1
  a ← key_at keyword.Successions shifts.1
  successions ← until_at succession_at keyword.Contracts a.1
  contracts ← listed_at contract_at successions.1
  nurses ← section_at keyword.Nurses nurse_at contracts.1
  Ok (
    record {
      name = title.0.0;
      weeks = title.0.1;
      skills = skills.0;
      shifts = shifts.0;
      successions = successions.0;
      contracts = contracts.0;
      nurses = nurses.0;
    },
    nurses.1,
  )

-- ---- the history

unfoldable pub nurse_history_at : List Seen → Read NurseHistory
nurse_history_at ts = do
  nurse ← name_at ts
  assignments ← small_at nurse.1
  weekends ← small_at assignments.1
  last ← name_at weekends.1
  shift_run ← small_at last.1
  working_run ← small_at shift_run.1
  free_run ← small_at working_run.1
  Ok (
    record {
      nurse = nurse.0;
      assignments = assignments.0;
      weekends = weekends.0;
      last_shift = last.0;
      shift_run = shift_run.0;
      working_run = working_run.0;
      free_run = free_run.0;
    },
    free_run.1,
  )

-- the history, with the given number of lines
unfoldable pub history_at : ℕ → List Seen → Read History
history_at lines ts = do
  a ← key_at keyword.History ts
  week ← number_at most_small a.1
  scenario ← name_at week.1
  b ← key_at keyword.NurseHistory scenario.1
  nurses ← times_at nurse_history_at lines b.1
  Ok (record { week = week.0; scenario = scenario.0; nurses = nurses.0 }, nurses.1)

-- ---- the weeks

unfoldable pub week_pairs_at : List Seen → Read WeekPairs
week_pairs_at ts = do
  monday ← pair_at ts
  tuesday ← pair_at monday.1
  wednesday ← pair_at tuesday.1
  thursday ← pair_at wednesday.1
  friday ← pair_at thursday.1
  saturday ← pair_at friday.1
  sunday ← pair_at saturday.1
  Ok (
    record {
      monday = monday.0;
      tuesday = tuesday.0;
      wednesday = wednesday.0;
      thursday = thursday.0;
      friday = friday.0;
      saturday = saturday.0;
      sunday = sunday.0;
    },
    sunday.1,
  )

unfoldable pub requirement_at : List Seen → Read Requirement
requirement_at ts = do
  shift ← name_at ts
  skill ← name_at shift.1
  pairs ← week_pairs_at skill.1
  Ok (record { shift = shift.0; skill = skill.0; days = pairs.0 }, pairs.1)

unfoldable pub request_at : List Seen → Read Request
request_at ts = do
  nurse ← name_at ts
  shift ← name_at nurse.1
  day ← day_at shift.1
  Ok (record { nurse = nurse.0; shift = shift.0; day = day.0 }, day.1)

unfoldable pub nurse_day_at : List Seen → Read NurseDay
nurse_day_at ts = do
  nurse ← name_at ts
  day ← day_at nurse.1
  Ok (record { nurse = nurse.0; day = day.0 }, day.1)

unfoldable pub week_data_at : List Seen → Read WeekData
week_data_at ts = do
  a ← key_at keyword.WeekData ts
  scenario ← name_at a.1
  b ← key_at keyword.Requirements scenario.1
  requirements ← until_at requirement_at keyword.ShiftOffRequests b.1
  off ← listed_at request_at requirements.1
  on ← optional_at keyword.ShiftOnRequests request_at off.1
  absences ← optional_at keyword.Absences nurse_day_at on.1
  fixed_days ← optional_at keyword.Fixed nurse_day_at absences.1
  Ok (
    record {
      scenario = scenario.0;
      requirements = requirements.0;
      off_requests = off.0;
      on_requests = on.0;
      absences = absences.0;
      fixed_days = fixed_days.0;
    },
    fixed_days.1,
  )

-- ---- the solutions

unfoldable pub assignment_at : List Seen → Read Assignment
assignment_at ts = do
  nurse ← name_at ts
  day ← day_at nurse.1
  shift ← name_at day.1
  skill ← name_at shift.1
  Ok (record { nurse = nurse.0; day = day.0; shift = shift.0; skill = skill.0 }, skill.1)

unfoldable pub solution_at : List Seen → Read Solution
solution_at ts = do
  a ← key_at keyword.Solution ts
  week ← number_at most_small a.1
  scenario ← name_at week.1
  assignments ← section_at keyword.Assignments assignment_at scenario.1
  Ok (record { week = week.0; scenario = scenario.0; assignments = assignments.0 }, assignments.1)

-- ---- the bundle

-- all four texts, up to the last solution
unfoldable pub bundle_at : List Seen → Read Bundle
bundle_at ts = do
  scenario ← scenario_at ts
  history ← history_at (length scenario.0.nurses.items) scenario.1
  weeks ← times_at week_data_at scenario.0.weeks.value history.1
  solutions ← times_at solution_at scenario.0.weeks.value weeks.1
  Ok (
    record { scenario = scenario.0; history = history.0; week_data = weeks.0; solutions = solutions.0 },
    solutions.1,
  )

-- ---- all of the tokens

-- the line of the first of these tokens, or of the end
abbrev pub line_of_first : ℕ → List Seen → ℕ
line_of_first end [] = end
line_of_first end (t ∷ ts) = t.token.line

abbrev pub fault_of : Refusal → ℕ → TextFault
fault_of (Due w) at = fault.Expected at w
fault_of OutOfRange at = fault.NumberRange at

-- a bundle, if no token is left after it; `end` is the line of the end
abbrev pub ended : ℕ → Bundle → List Seen → Result Bundle TextFault
ended end b [] = Ok b
ended end b (t ∷ ts) = Err (fault.AfterEnd t.token.line)

-- a bundle with no token after it, or the first fault
abbrev pub whole_of : ℕ → Read Bundle → Result Bundle TextFault
whole_of end (Ok x) = ended end x.0 x.1
whole_of end (Err stopped) = Err (fault_of stopped.0 (line_of_first end stopped.1))

-- a function returned this result, unless memory ran out
abbrev pub GivesUnlessMemory : Result Bundle TextFault → Result Bundle TextFault → Type 0
GivesUnlessMemory (Err fault.Memory) read = Unit {0}
GivesUnlessMemory r read = r ≡ read
