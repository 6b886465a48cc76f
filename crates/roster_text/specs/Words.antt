-- The words of the four texts.
use Rattle.std.specs.Prelude.{ℕ, List, codes}
use Rattle.roster_text.specs.declared.fault.Keyword.{Keyword}
use Rattle.roster_text.specs.declared.fault.Keyword.TheVariants as keyword
use Rattle.roster_text.specs.declared.fault.What.{What}
use Rattle.roster_text.specs.declared.fault.What.TheVariants as what

-- how a keyword is written
abbrev pub keyword_text : Keyword → List ℕ
keyword_text keyword.Scenario = codes "SCENARIO"
keyword_text keyword.Weeks = codes "WEEKS"
keyword_text keyword.Skills = codes "SKILLS"
keyword_text keyword.ShiftTypes = codes "SHIFT_TYPES"
keyword_text keyword.Successions = codes "FORBIDDEN_SHIFT_TYPES_SUCCESSIONS"
keyword_text keyword.Contracts = codes "CONTRACTS"
keyword_text keyword.Nurses = codes "NURSES"
keyword_text keyword.History = codes "HISTORY"
keyword_text keyword.NurseHistory = codes "NURSE_HISTORY"
keyword_text keyword.WeekData = codes "WEEK_DATA"
keyword_text keyword.Requirements = codes "REQUIREMENTS"
keyword_text keyword.ShiftOffRequests = codes "SHIFT_OFF_REQUESTS"
keyword_text keyword.ShiftOnRequests = codes "SHIFT_ON_REQUESTS"
keyword_text keyword.Absences = codes "ABSENCES"
keyword_text keyword.Fixed = codes "FIXED"
keyword_text keyword.Solution = codes "SOLUTION"
keyword_text keyword.Assignments = codes "ASSIGNMENTS"

-- the word in a fault line for what was due
abbrev pub what_text : What → List ℕ
what_text (what.Keyword k) = keyword_text k
what_text what.Equals = codes "="
what_text what.Open = codes "("
what_text what.Comma = codes ","
what_text what.Close = codes ")"
what_text what.Name = codes "name"
what_text what.Number = codes "number"
what_text what.Day = codes "day"
