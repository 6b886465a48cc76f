-- The lines of faults and reports.
use Rattle.std.specs.Prelude.{ℕ, ◌*◌, ◌/◌, ◌%◌, ◌++◌, List, [], codes, decimal, flat_map, slice_index_or, Option, Some, None}
use Rattle.std.specs.List.{range_with_len}
use Rattle.roster_bundle.specs.Canonical.{weekday_text}
use Rattle.roster_bundle.specs.Limits.{most_bytes}
use Rattle.roster_bundle.specs.Token.{text_of}
use Rattle.roster_text.specs.Words.{what_text}
use Rattle.roster_bundle.specs.declared.bundle.Bundle.{Bundle}
use Rattle.roster_text.specs.declared.fault.TextFault.{TextFault}
use Rattle.roster_text.specs.declared.fault.TextFault.TheVariants as text
use Rattle.roster_instance.specs.Meaning.{Meaning, day_count, nurse_count, nurse_name}
use Rattle.roster_instance.specs.Names.{nurse_names}
use Rattle.roster_rules.specs.Improver.{line}
use Rattle.roster_rules.specs.Penalties.{total_cost}
use Rattle.roster_instance.specs.Sizes.{choice_count, state_count}
use Rattle.roster_instance.specs.declared.fault.CaseFault.{CaseFault}
use Rattle.roster_instance.specs.declared.fault.CaseFault.TheVariants as case
use Rattle.roster_rules.specs.declared.fault.HardFault.{HardFault}
use Rattle.roster_rules.specs.declared.fault.HardFault.TheVariants.{H2, H3, H4, Absent}
use Rattle.roster_rules.specs.declared.penalties.Costs.{Costs}

abbrev pub Text : Type 0
Text = List ℕ

-- ---- faults

-- the line for want of memory
abbrev pub memory_line : Text
memory_line = codes "no memory\n"

-- the line for a fault of the text
abbrev pub text_line : TextFault → Text
text_line text.Memory = memory_line
text_line text.ReadFailed = codes "read failed\n"
text_line text.TooLong = codes "input longer than " ++ decimal most_bytes ++ codes " bytes\n"
text_line (text.Expected line what) =
    codes "line " ++ decimal line ++ codes ": expected " ++ what_text what ++ codes "\n"
text_line (text.NumberRange line) = codes "line " ++ decimal line ++ codes ": number out of range\n"
text_line (text.AfterEnd line) = codes "line " ++ decimal line ++ codes ": text after the end\n"

-- a nurse breaks a rule on a weekday of a week
abbrev pub nurse_day_line : Text → ℕ → Text → Text → Text
nurse_day_line rule week weekday nurse =
    rule ++ codes " week " ++ decimal week ++ codes " " ++ weekday ++ codes " " ++ nurse ++ codes "\n"

-- the name of the nurse that a fault of the case or the solutions is about, if it is about one
abbrev pub nurse_of : Text → Bundle → CaseFault → Text
nurse_of source b (case.TooManyStates nurse name) = text_of source name
nurse_of source b (case.H1 nurse day) = slice_index_or (nurse_names source b) nurse []
nurse_of source b _ = []

-- the line for such a fault, with that name
abbrev pub case_line : CaseFault → Text → Text
case_line case.Memory nurse = memory_line
case_line (case.Repeated line) nurse = codes "line " ++ decimal line ++ codes ": repeated name\n"
case_line (case.Unknown line) nurse = codes "line " ++ decimal line ++ codes ": unknown name\n"
case_line (case.Reserved line) nurse = codes "line " ++ decimal line ++ codes ": reserved name\n"
case_line (case.OtherInstance line) nurse = codes "line " ++ decimal line ++ codes ": other instance\n"
case_line (case.HistoryWeek line) nurse = codes "line " ++ decimal line ++ codes ": history week is not 0\n"
case_line (case.HistoryNurses line) nurse =
    codes "line " ++ decimal line ++ codes ": repeated nurse in history\n"
case_line (case.RepeatedRequirement line) nurse =
    codes "line " ++ decimal line ++ codes ": repeated requirement\n"
case_line (case.Limit line) nurse = codes "line " ++ decimal line ++ codes ": count out of limits\n"
case_line (case.TooManyStates number name) nurse = codes "too many states for " ++ nurse ++ codes "\n"
case_line (case.H1 number day) nurse = nurse_day_line (codes "H1") (day / 7) (weekday_text (day % 7)) nurse

-- the names that a case has for a shift and a skill, empty for a number that it doesn't have
abbrev pub shift_name : Meaning → ℕ → Text
shift_name c s = slice_index_or c.shift_names s []

abbrev pub skill_name : Meaning → ℕ → Text
skill_name c k = slice_index_or c.skill_names k []

-- a slot is short of its minimum, on a weekday of a week
abbrev pub missing_line : ℕ → Text → Text → Text → ℕ → ℕ → Text
missing_line week weekday shift skill have need =
    codes "H2 week " ++ decimal week ++ codes " " ++ weekday ++ codes " " ++ shift ++ codes " " ++ skill
    ++ codes ": " ++ decimal have ++ codes " of " ++ decimal need ++ codes "\n"

-- the line for a breach of the hard rules, with the names that the case has for its numbers
abbrev pub hard_line : Meaning → HardFault → Text
hard_line c (H2 day shift skill have need) =
    missing_line (day / 7) (weekday_text (day % 7)) (shift_name c shift.0) (skill_name c skill.0) have need
hard_line c (H3 nurse day) =
    nurse_day_line (codes "H3") (day / 7) (weekday_text (day % 7)) (nurse_name c nurse)
hard_line c (H4 nurse day) =
    nurse_day_line (codes "H4") (day / 7) (weekday_text (day % 7)) (nurse_name c nurse)
hard_line c (Absent nurse day) =
    nurse_day_line (codes "absent") (day / 7) (weekday_text (day % 7)) (nurse_name c nurse)

-- ---- reports

-- the report of what a roster costs: each soft rule, and the total
unfoldable pub costs_text : Costs → Text
costs_text k =
    line (codes "S1") k.s1 ++ line (codes "S2") k.s2 ++ line (codes "S3") k.s3 ++ line (codes "S4") k.s4
    ++ line (codes "S5") k.s5 ++ line (codes "S6") k.s6 ++ line (codes "S7") k.s7 ++ line (codes "S8") k.s8
    ++ line (codes "total") (total_cost k)

-- the report of a bound: what the roster costs, and the lower bound
abbrev pub bound_text : ℕ → ℕ → Text
bound_text total bound = line (codes "roster") total ++ line (codes "bound") bound

-- the line of a nurse who may take an assignment: what the roster costs with her row, on how many days that
-- row has another choice, and, if the roster is short of minimums, by how many nurses it still is
abbrev pub taker_line : Text → (penalty changed : ℕ) → Option ℕ → Text
taker_line name penalty changed None =
    name ++ codes " " ++ decimal penalty ++ codes " changed " ++ decimal changed ++ codes "\n"
taker_line name penalty changed (Some missed) =
    name ++ codes " " ++ decimal penalty ++ codes " changed " ++ decimal changed ++ codes " missed "
    ++ decimal missed ++ codes "\n"

-- a name and the sizes of a search with these numbers of states, of days and of choices a day: its states,
-- labels in two tables, pointers, and extensions at most
abbrev pub search_line : Text → ℕ → ℕ → ℕ → Text
search_line name states days choices =
    name ++ codes " " ++ decimal states ++ codes " " ++ decimal (2 * states) ++ codes " "
    ++ decimal (states * days) ++ codes " " ++ decimal (states * days * choices) ++ codes "\n"

-- the sizes of the search for a nurse
abbrev pub sizes_line : Meaning → ℕ → Text
sizes_line c n = search_line (nurse_name c n) (state_count c n) (day_count c) (choice_count c n)

-- the report of the sizes: a line for each nurse, in the order of the scenario
unfoldable pub sizes_text : Meaning → Text
sizes_text c = flat_map (sizes_line c) (range_with_len 0 (nurse_count c))
