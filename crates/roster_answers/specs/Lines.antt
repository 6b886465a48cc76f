-- The lines of faults, and the statuses. `roster_reports` defines the lines of reports, and of each kind of
-- fault of the input.
use Rattle.std.specs.Prelude.{◌≡◌, ℕ, ◌++◌, List, [], codes, Some}
use Rattle.roster_text.specs.declared.fault.TextFault.{TextFault}
use Rattle.roster_text.specs.declared.fault.TextFault.TheVariants as text
use Rattle.roster_instance.specs.Faults.{first_fault}
use Rattle.roster_instance.specs.declared.fault.CaseFault.{CaseFault}
use Rattle.roster_instance.specs.declared.fault.CaseFault.TheVariants as case
use Rattle.roster_instance.specs.Meaning.{Meaning}
use Rattle.roster_rules.specs.Improver.{line, start_word}
use Rattle.roster_rules.specs.declared.fault.HardFault.{HardFault}
use Rattle.roster_reports.specs.Lines.{Text, case_line, hard_line, memory_line, text_line}
use Rattle.roster_answers.specs.declared.fault.Fault.{Fault}
use Rattle.roster_answers.specs.declared.fault.Fault.TheVariants as fault
use Rattle.roster_answers.specs.declared.fault.Thing.{Thing}
use Rattle.roster_answers.specs.declared.fault.Thing.TheVariants as thing

-- the fault is the first of these breaches, with this case, from which its line takes the names
abbrev pub IsFirstBreach : Meaning → List HardFault → Fault → Type 0
IsFirstBreach c faults (fault.Hard f d) = (first_fault faults ≡ Some f) × (d ≡ c)
IsFirstBreach c faults _ = ⊥

-- the line of an output that failed
abbrev pub output_line : Text
output_line = codes "write failed\n"

-- the word for a kind of thing
abbrev pub thing_text : Thing → Text
thing_text thing.Nurse = codes "nurse"
thing_text thing.Day = codes "day"
thing_text thing.Shift = codes "shift"
thing_text thing.Skill = codes "skill"

-- the line for a name that the case doesn't have
abbrev pub unknown_line : Thing → Text → Text
unknown_line thing name = codes "unknown " ++ thing_text thing ++ codes " " ++ name ++ codes "\n"

-- the line for a fault; there is none if the log failed
abbrev pub fault_line : Fault → Text
fault_line (fault.Text f) = text_line f
fault_line (fault.Case f nurse) = case_line f nurse.now
fault_line (fault.Hard f d) = hard_line d f
fault_line (fault.Unfound f d) = codes "not found: " ++ hard_line d f
fault_line (fault.Unknown thing name) = unknown_line thing name.now
fault_line fault.Memory = memory_line
fault_line fault.Workspace = memory_line
fault_line fault.Output = output_line
fault_line fault.Log = []

-- ---- the log of a command

-- the log of a search for a nurse's best row: what the roster costs before, and what it costs with that row
abbrev pub best_log : Meaning → ℕ → Text → ℕ → Text
best_log c before name after = line (start_word c) before ++ line (codes "best " ++ name) after

-- ---- statuses: 4 is want of memory, 3 a reader or a writer, 1 the input

abbrev pub text_status : TextFault → ℕ
text_status text.Memory = 4
text_status text.ReadFailed = 3
text_status _ = 1

abbrev pub case_status : CaseFault → ℕ
case_status case.Memory = 4
case_status _ = 1

abbrev pub status_of : Fault → ℕ
status_of (fault.Text f) = text_status f
status_of (fault.Case f nurse) = case_status f
status_of (fault.Hard f d) = 1
status_of (fault.Unfound f d) = 1
status_of (fault.Unknown thing name) = 1
status_of fault.Memory = 4
status_of fault.Workspace = 4
status_of fault.Output = 3
status_of fault.Log = 3
