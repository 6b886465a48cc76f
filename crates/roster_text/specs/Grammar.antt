-- The grammar of the four texts: the list of patterns, computed from a bundle, that the tokens of a text fit
-- if it spells that bundle.
use Rattle.std.specs.Prelude.{◌≡◌, ◌≤◌, ◌⊎◌, ℕ, Bool, true, false, ◌&&◌, List, [], ◌∷◌, ◌++◌, Option, Some, None, length, codes, not}
use Rattle.std.specs.List.{flat_map, list_all}
use Rattle.std.specs.Char.{is_ascii_digit}
use Rattle.std.specs.Str.Parse.{digits_value}
use Rattle.roster_bundle.specs.declared.bundle.Assignment.{Assignment}
use Rattle.roster_bundle.specs.declared.bundle.Bundle.{Bundle}
use Rattle.roster_bundle.specs.declared.bundle.Contract.{Contract}
use Rattle.roster_bundle.specs.declared.bundle.Day.{Day}
use Rattle.roster_bundle.specs.declared.bundle.History.{History}
use Rattle.roster_bundle.specs.declared.bundle.Listed.{Listed}
use Rattle.roster_bundle.specs.declared.bundle.Nurse.{Nurse}
use Rattle.roster_bundle.specs.declared.bundle.NurseDay.{NurseDay}
use Rattle.roster_bundle.specs.declared.bundle.NurseHistory.{NurseHistory}
use Rattle.roster_bundle.specs.declared.bundle.Request.{Request}
use Rattle.roster_bundle.specs.declared.bundle.Pair.{Pair}
use Rattle.roster_bundle.specs.declared.bundle.Requirement.{Requirement}
use Rattle.roster_bundle.specs.declared.bundle.Scenario.{Scenario}
use Rattle.roster_bundle.specs.declared.bundle.ShiftType.{ShiftType}
use Rattle.roster_bundle.specs.declared.bundle.Solution.{Solution}
use Rattle.roster_bundle.specs.declared.bundle.Succession.{Succession}
use Rattle.roster_bundle.specs.declared.bundle.WeekData.{WeekData}
use Rattle.roster_bundle.specs.declared.bundle.WeekPairs.{WeekPairs}
use Rattle.roster_text.specs.declared.fault.Keyword.{Keyword}
use Rattle.roster_text.specs.declared.fault.Keyword.TheVariants as keyword
use Rattle.roster_text.specs.declared.fault.What.{What}
use Rattle.roster_text.specs.declared.fault.What.TheVariants as what
use Rattle.roster_bundle.specs.declared.token.Token.{Token}
use Rattle.roster_bundle.specs.Token.{Seen, is_mark}
use Rattle.roster_bundle.specs.Weekdays.{short, long}
use Rattle.roster_text.specs.Words.{keyword_text}
use Rattle.roster_bundle.specs.Limits.{most_counted, most_small}

-- A pattern for one token.
pub data Pattern : Type 0 where
  -- a fixed text, and the word for what is due there
  fixed : What → List ℕ → Pattern
  -- any word; the token itself is kept
  name : Token → Pattern
  -- a number up to a limit: the limit and the value
  number : ℕ → ℕ → Pattern
  -- a number whose token the bundle keeps too
  placed : Token → ℕ → ℕ → Pattern
  -- a day, in either spelling
  day : Day → Pattern

-- a name is any word: a token that is no mark
abbrev pub is_name : List ℕ → Bool
is_name [] = false
is_name (b ∷ _) = not (is_mark b)

-- the text has only digits
abbrev pub is_number : List ℕ → Bool
is_number text = is_name text && list_all is_ascii_digit text

-- a token fits a pattern
abbrev pub Fits : Pattern → Seen → Type 0
Fits (fixed due text) t = t.text ≡ text
Fits (name n) t = (is_name t.text ≡ true) × (t.token ≡ n)
Fits (number limit n) t = (is_number t.text ≡ true) × (digits_value 10 t.text ≡ n) × (n ≤ limit)
Fits (placed token limit n) t =
    (is_number t.text ≡ true) × (digits_value 10 t.text ≡ n) × (n ≤ limit) × (t.token ≡ token)
Fits (day d) t = (t.text ≡ short d) ⊎ (t.text ≡ long d)

-- the word for what is due
abbrev pub label : Pattern → What
label (fixed due text) = due
label (name n) = what.Name
label (number limit n) = what.Number
label (placed token limit n) = what.Number
label (day d) = what.Day

-- the tokens fit the patterns one by one, and none is left on either side
abbrev pub Spelled : List Pattern → List Seen → Type 0
Spelled [] [] = Unit {0}
Spelled (p ∷ ps) (t ∷ ts) = Fits p t × Spelled ps ts
Spelled [] (t ∷ ts) = ⊥
Spelled (p ∷ ps) [] = ⊥

-- ---- the pieces that the sections consist of

-- one list after the other
abbrev pub parts : List (List Pattern) → List Pattern
parts pieces = flat_map (λ piece. piece) pieces

abbrev pub key : Keyword → List Pattern
key k = fixed (what.Keyword k) (keyword_text k) ∷ []

abbrev pub equals : List Pattern
equals = fixed what.Equals (codes "=") ∷ []

abbrev pub named : Token → List Pattern
named token = name token ∷ []

-- a number from 0 to 999
abbrev pub small : ℕ → List Pattern
small n = number most_small n ∷ []

-- the number of names that follow
abbrev pub count : ℕ → List Pattern
count n = number most_counted n ∷ []

-- `(` least `,` greatest `)`
abbrev pub pair : Pair → List Pattern
pair p =
    fixed what.Open (codes "(") ∷ number most_small p.least ∷ fixed what.Comma (codes ",")
    ∷ number most_small p.greatest ∷ fixed what.Close (codes ")") ∷ []

-- a keyword, `=`, the number of items, and the items
abbrev pub section : {T : Type 0} → Keyword → (T → List Pattern) → Listed T → List Pattern
section k item xs =
    parts
    (key k ∷ equals ∷ (placed xs.count most_counted (length xs.items) ∷ []) ∷ flat_map item xs.items ∷ [])

-- a number of names, and the names
abbrev pub counted_names : List Token → List Pattern
counted_names names = parts (count (length names) ∷ flat_map named names ∷ [])

-- Lines up to the keyword of the next section, followed by `=`: wherever a line may begin, a name is due.
-- `second` is what is due after a line's first word.
abbrev pub lines_until : {T : Type 0} → Keyword → What → (T → List Pattern) → List T → List Pattern
lines_until end second line xs =
    parts (flat_map line xs ∷ (fixed what.Name (keyword_text end) ∷ fixed second (codes "=") ∷ []) ∷ [])

-- a section without its keyword and `=`, which already ended the lines before it
abbrev pub rest_of_section : {T : Type 0} → (T → List Pattern) → Listed T → List Pattern
rest_of_section item xs =
    parts ((placed xs.count most_counted (length xs.items) ∷ []) ∷ flat_map item xs.items ∷ [])

-- A section that may be absent, with its keyword and that of the section after it: where it may begin, the
-- section after it is due.
abbrev pub optional_section : {T : Type 0} → Keyword → Keyword → (T → List Pattern) → Option (Listed T)
    → List Pattern
optional_section k after item None = []
optional_section k after item (Some xs) =
    parts ((fixed (what.Keyword after) (keyword_text k) ∷ []) ∷ equals
    ∷ (placed xs.count most_counted (length xs.items) ∷ []) ∷ flat_map item xs.items ∷ [])

-- ---- the scenario

abbrev pub shift_type : ShiftType → List Pattern
shift_type s = parts (named s.name ∷ pair s.run ∷ [])

abbrev pub succession : Succession → List Pattern
succession s = parts (named s.shift ∷ counted_names s.forbidden ∷ [])

abbrev pub contract : Contract → List Pattern
contract c =
    parts (named c.name ∷ pair c.total ∷ pair c.working ∷ pair c.free ∷ small c.weekends
    ∷ (number 1 c.complete_weekends ∷ []) ∷ [])

abbrev pub nurse : Nurse → List Pattern
nurse n = parts (named n.name ∷ named n.contract ∷ counted_names n.skills ∷ [])

abbrev pub scenario : Scenario → List Pattern
scenario s = parts (
    key keyword.Scenario ∷ equals ∷ named s.name
    ∷ key keyword.Weeks ∷ equals ∷ (placed s.weeks.token most_counted s.weeks.value ∷ [])
    ∷ section keyword.Skills named s.skills
    ∷ section keyword.ShiftTypes shift_type s.shifts
    ∷ key keyword.Successions ∷ lines_until keyword.Contracts what.Number succession s.successions
    ∷ rest_of_section contract s.contracts
    ∷ section keyword.Nurses nurse s.nurses ∷ [])

-- ---- the history

abbrev pub nurse_history : NurseHistory → List Pattern
nurse_history h =
    parts (named h.nurse ∷ small h.assignments ∷ small h.weekends ∷ named h.last_shift ∷ small h.shift_run
    ∷ small h.working_run ∷ small h.free_run ∷ [])

abbrev pub history : History → List Pattern
history h = parts (
    key keyword.History ∷ (placed h.week.token most_small h.week.value ∷ []) ∷ named h.scenario
    ∷ key keyword.NurseHistory ∷ flat_map nurse_history h.nurses ∷ [])

-- ---- the weeks

abbrev pub week_pairs : WeekPairs → List Pattern
week_pairs d =
    parts (pair d.monday ∷ pair d.tuesday ∷ pair d.wednesday ∷ pair d.thursday ∷ pair d.friday
    ∷ pair d.saturday ∷ pair d.sunday ∷ [])

abbrev pub requirement : Requirement → List Pattern
requirement r = parts (named r.shift ∷ named r.skill ∷ week_pairs r.days ∷ [])

abbrev pub request : Request → List Pattern
request r = parts (named r.nurse ∷ named r.shift ∷ (day r.day ∷ []) ∷ [])

abbrev pub nurse_day : NurseDay → List Pattern
nurse_day a = parts (named a.nurse ∷ (day a.day ∷ []) ∷ [])

-- with the keyword of the section after the week
abbrev pub week_data : Keyword → WeekData → List Pattern
week_data after w = parts (
    key keyword.WeekData ∷ named w.scenario
    ∷ key keyword.Requirements ∷ lines_until keyword.ShiftOffRequests what.Name requirement w.requirements
    ∷ rest_of_section request w.off_requests
    ∷ optional_section keyword.ShiftOnRequests after request w.on_requests
    ∷ optional_section keyword.Absences after nurse_day w.absences
    ∷ optional_section keyword.Fixed after nurse_day w.fixed_days ∷ [])

-- the keyword after a week: that of the weeks that follow, or that of the solutions
abbrev pub after_week : List WeekData → Keyword
after_week [] = keyword.Solution
after_week (_ ∷ _) = keyword.WeekData

-- the weeks one after the other
abbrev pub weeks : List WeekData → List Pattern
weeks [] = []
weeks (w ∷ later) = week_data (after_week later) w ++ weeks later

-- ---- the solutions

abbrev pub assignment : Assignment → List Pattern
assignment a = parts (named a.nurse ∷ (day a.day ∷ []) ∷ named a.shift ∷ named a.skill ∷ [])

abbrev pub solution : Solution → List Pattern
solution s = parts (
    key keyword.Solution ∷ (placed s.week.token most_small s.week.value ∷ []) ∷ named s.scenario
    ∷ section keyword.Assignments assignment s.assignments ∷ [])

-- ---- the bundle

-- all patterns of a text that spells the bundle
abbrev pub bundle : Bundle → List Pattern
bundle b =
    parts (scenario b.scenario ∷ history b.history ∷ weeks b.week_data ∷ flat_map solution b.solutions ∷ [])

-- The tokens spell the bundle: they fit its patterns, the history has a line for each nurse, and each week
-- has its data and its solution.
pub record Spells (ts : List Seen) (b : Bundle) : Type 0 where
  pub fits : Spelled (bundle b) ts
  pub history_lines : length b.history.nurses ≡ length b.scenario.nurses.items
  pub week_data_parts : length b.week_data ≡ b.scenario.weeks.value
  pub solution_parts : length b.solutions ≡ b.scenario.weeks.value
