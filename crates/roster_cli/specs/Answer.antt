-- What a run answers.
use Rattle.std.specs.Prelude.{◌≡◌, ℕ, ◌*◌, ◌++◌, codes, ◌<◌, ◌≤◌, ◌⊎◌, max, min, Bool, true, false, List, [], IfSome, Option, None, Some, length, option_map, string_bytes}
use Rattle.roster_text.specs.Io.{Watched, one_more}
use Rattle.roster_bundle.specs.Limits.{most_bytes}
use Rattle.roster_bundle.specs.declared.bundle.Bundle.{Bundle}
use Rattle.roster_text.specs.declared.fault.TextFault.TheVariants as text
use Rattle.roster_instance.specs.Bundles.{meaning_of}
use Rattle.roster_rules.specs.HardRules.{hard_faults}
use Rattle.roster_instance.specs.Limits.{most_keep}
use Rattle.roster_instance.specs.Meaning.{Meaning, day_count, keeping, nurse_count}
use Rattle.roster_rules.specs.Penalties.{penalty}
use Rattle.roster_instance.specs.Rosters.{Rows, fits_case}
use Rattle.roster_case.specs.Shown.{weeks_text}
use Rattle.roster_rules.specs.declared.fault.HardFault.{HardFault}
use Rattle.roster_rounds.specs.PutIn.{IsAccepted}
use Rattle.roster_costs.specs.Irreparable.{irreparable}
use Rattle.roster_costs.specs.Minimums.{missing}
use Rattle.roster_polish.specs.Plans.{IsPlanned}
use Rattle.roster_polish.specs.Polished.{IsPolishing, most_searches}
use Rattle.roster_polish.specs.declared.run.Course.{Course}
use Rattle.roster_reports.specs.Lines.{Text, sizes_text}
use Rattle.roster_json.specs.Reports.{json_cost, json_sizes}
use Rattle.roster_answers.specs.Lines.{IsFirstBreach, output_line, status_of}
use Rattle.roster_answers.specs.declared.fault.Fault.{Fault}
use Rattle.roster_answers.specs.declared.fault.Fault.TheVariants as fault
use Rattle.roster_answers.specs.declared.instance.Instance.{Instance}
use Rattle.roster_request.specs.declared.request.Command.{Command}
use Rattle.roster_request.specs.declared.request.Request.{Request}
use Rattle.roster_request.specs.declared.request.Command.TheVariants as command
use Rattle.roster_answers.specs.Answer.{CommandEnd, HasFault, Input, IsBoundWithin, IsRefusedFor, IsTaken, IsWhoReport, Leaves, LeavesLog, Logs, Output, ReadsAll, Report, SpellsBundle, ReportsFault, Untouched, best_report, cost_report, improve_report, plain, roster_of}

-- ---- a case and its roster: what a command answers for them

-- the roster that a run of kicks reached, and its log
abbrev pub polish_report : Rows → Text → Meaning → Rows → Report
polish_report last log_text c r =
    record (plain (weeks_text c last)) { is_held = true; broken = hard_faults c r; log = Some log_text }

-- The report is of such a run from a roster that is accepted, with kicks alone or with a fade before them.
-- How cheap the roster gets isn't stated.
pub record IsPolishReport (searches from : ℕ) (alone : Bool) (c : Meaning) (r : Rows)
    (p : Report) : Type 0 where
  pub settled : Bool
  pub last : Rows
  pub log_text : Text
  pub run : IsAccepted c r → IsPolishing c from r (penalty c r) searches alone settled last log_text
  pub is : p ≡ polish_report last log_text c r

-- the roster that a run of kicks reached from the nearest roster that a plan found, and its log
abbrev pub plan_report : ℕ → Rows → Rows → Text → Meaning → Rows → Report
plan_report from nearest last log_text c r =
    record (plain (weeks_text c last)) {
      is_held = true;
      broken = irreparable c from r;
      unfound = hard_faults c nearest;
      log = Some log_text;
    }

-- The report is of such a run. Its log begins with how many nurses the given roster lacks to the minimums. If
-- the given roster keeps the hard rules, the run begins with it; else it begins with the nearest, one that a
-- plan made of it. That no other is nearer isn't stated.
pub record IsPlanReport (searches from : ℕ) (alone : Bool) (c : Meaning) (r : Rows)
    (p : Report) : Type 0 where
  pub nearest : Rows
  pub fits : fits_case c r ≡ true → fits_case c nearest ≡ true
  pub planned : IsPlanned c from r nearest
  pub settled : Bool
  pub last : Rows
  pub log_text : Text
  pub run : IsAccepted c nearest
      → IsPolishing c from nearest (missing c r) searches alone settled last log_text
  pub is : p ≡ plan_report from nearest last log_text c r

-- how many searches a run may make: the number asked for; or else, with a limit of time, the greatest; or
-- else 400 for each nurse, and at least 20,000
abbrev pub searches_for : Meaning → (searches seconds : Option ℕ) → ℕ
searches_for c (Some searches) seconds = searches
searches_for c None (Some seconds) = most_searches
searches_for c None None = max (400 * nurse_count c) 20000

-- how many points a command charges for each day that changes from the given roster: the number asked for, up
-- to the greatest
abbrev pub keep_of : Command → ℕ
keep_of (command.Best nurse from keep) = min keep most_keep
keep_of (command.Improve rounds from keep) = min keep most_keep
keep_of (command.Bound rounds nodes seconds from keep) = min keep most_keep
keep_of (command.Polish searches seconds seed from alone keep) = min keep most_keep
keep_of (command.Plan searches seconds seed from keep) = min keep most_keep
keep_of _ = 0

-- the case for which it works, which charges these points for days that change from the given roster
abbrev pub case_for : Command → Meaning → Rows → Meaning
case_for command c r = keeping c r (keep_of command)

-- this is what a command writes for a case, whatever roster the case keeps
abbrev pub IsReportIn : Command → Meaning → Rows → Report → Type 0
IsReportIn command.Show c r p = p ≡ plain (weeks_text c r)
IsReportIn (command.Cost false) c r p = p ≡ cost_report c r
IsReportIn (command.Cost true) c r p = p ≡ plain (json_cost c r)
IsReportIn (command.Sizes false) c r p = p ≡ plain (sizes_text c)
IsReportIn (command.Sizes true) c r p = p ≡ plain (json_sizes c)
IsReportIn (command.Best nurse from keep) c r p = p ≡ best_report (string_bytes nurse) from c r
IsReportIn (command.Improve rounds from keep) c r p = p ≡ improve_report rounds from c r
IsReportIn (command.Bound rounds nodes seconds from keep) c r p =
    IsBoundWithin (record { rounds = rounds; nodes = nodes }) seconds from c r p
IsReportIn (command.Polish searches seconds seed from alone keep) c r p =
    IsPolishReport (searches_for c searches seconds) from alone c r p
IsReportIn (command.Plan searches seconds seed from keep) c r p =
    IsPlanReport (searches_for c searches seconds) from false c r p
IsReportIn (command.Who day shift skill from json) c r p =
    IsWhoReport (record
    { day = string_bytes day; shift = string_bytes shift; skill = option_map string_bytes skill })
    from json c r p

-- this is what a command requires of a case and its roster, and writes for them
abbrev pub IsReportOf : Command → Meaning → Rows → Report → Type 0
IsReportOf command c r p = IsReportIn command (case_for command c r) r p

-- ---- the same for an instance that was read

abbrev pub IsReportFor : Command → Instance → Report → Type 0
IsReportFor command instance p = IsReportIn command instance.case instance.roster p

abbrev pub IsPolishFor : {K : Type 0} → Course K → Instance → Report → Type 0
IsPolishFor course instance p =
    IsPolishReport course.searches course.from course.kicks_alone instance.case instance.roster p

abbrev pub IsPlanFor : {K : Type 0} → Course K → Instance → Report → Type 0
IsPlanFor course instance p =
    IsPlanReport course.searches course.from course.kicks_alone instance.case instance.roster p

-- ---- the file to which the roster goes

-- its path, if one is given
abbrev pub out_of : Request → Option Text
out_of request = option_map string_bytes request.out

-- the line of an output that failed: with the path of its file, if it goes to one
abbrev pub write_line : Option Text → Text
write_line None = output_line
write_line (Some path) = path ++ codes ": write failed\n"

-- a fault is reported by its line, that of an output with its path
abbrev pub ReportsTo : {L : Type 0} → Option Text → (L → Option Text) → Watched L → Watched L → Fault → Type 0
ReportsTo out contents old new fault.Output = Logs contents old new (write_line out)
ReportsTo out contents old new f = ReportsFault contents old new f

-- ---- what is refused

-- a command without a log
abbrev pub IsSilent : Command → Type 0
IsSilent command = (c : Meaning) (r : Rows) (p : Report) → IsReportOf command c r p → p.log ≡ None

-- why the roster that was found is not held: the first of these breaches, or want of memory if there is none
abbrev pub IsUnfound : Meaning → List HardFault → Fault → Type 0
IsUnfound c broken fault.Memory = broken ≡ []
IsUnfound c broken (fault.Unfound f d) = IsFirstBreach c broken (fault.Hard f d)
IsUnfound c broken _ = ⊥

-- a plan that has found no roster has made all searches that were asked for, up to the greatest number of
-- them: each counted at least one extension for each day
abbrev pub HasSearched : Meaning → (searches meter : ℕ) → Fault → Type 0
HasSearched c searches meter (fault.Unfound f d) = min searches most_searches * day_count c ≤ meter
HasSearched c searches meter _ = Unit {0}

-- ---- a bundle: the same, and why it is refused

-- this is what a command requires of the bundle and writes for it
abbrev pub IsAnswer : Command → Text → Bundle → Report → Type 0
IsAnswer command bytes b p = IsReportOf command (meaning_of bytes b) (roster_of bytes b) p

-- how a command with this report ends for it
abbrev pub IsOutcomeFor : Command → Report → Text → Bundle → CommandEnd → Type 0
IsOutcomeFor command p bytes b (Some (fault.Case f nurse)) = IsRefusedFor bytes b f nurse.now
IsOutcomeFor command p bytes b outcome = IsTaken p (keep_of command) bytes b outcome

-- ---- a command, from the bytes

-- the bytes spell a bundle for which the command ends so, with what it leaves of its text and of its log
pub record AnswersBundle {W L : Type 0} (output : Output W) (log : Output L) (command : Command)
    (bytes : Text) (outcome : CommandEnd) : Type 0 where
  pub bundle : Bundle
  pub spelled : SpellsBundle bytes bundle
  pub report : Report
  pub is : IsAnswer command bytes bundle report
  pub ends : IsOutcomeFor command report bytes bundle outcome
  pub left : Leaves output report.output outcome
  pub logged : LeavesLog log report.log outcome

-- the command ends so for the bytes
abbrev pub Answers : {W L : Type 0} → Output W → Output L → Command → Text → CommandEnd → Type 0
Answers output log command bytes (Some (fault.Text f)) = HasFault bytes f × Untouched output × Untouched log
Answers output log command bytes outcome = AnswersBundle output log command bytes outcome

-- ---- from the reader

-- the input was read, and the command ends so for its bytes
pub record ReadsAndAnswers {R W L : Type 0} (input : Input R) (output : Output W) (log : Output L)
    (command : Command) (outcome : CommandEnd) : Type 0 where
  pub bytes : Text
  pub read : ReadsAll input bytes
  pub answers : Answers output log command bytes outcome

-- the same, and no fault stops the command
abbrev pub IsAnswered : {R W L : Type 0} → Input R → Output W → Output L → Command → Type 0
IsAnswered input output log command = ReadsAndAnswers input output log command None

-- the input was not read to its end
abbrev pub IsUnread : {R : Type 0} → Input R → Fault → Type 0
IsUnread input (fault.Text text.Memory) = input.after.failures ≡ input.before.failures
IsUnread input (fault.Text text.ReadFailed) = input.after.failures ≡ one_more input.before.failures
IsUnread input (fault.Text text.TooLong) =
    (input.after.failures ≡ input.before.failures)
    × IfSome (input.remaining input.before.inner) (λ given. most_bytes < length given)
IsUnread input _ = ⊥

-- why the command stopped, and what it left on the output and on the log
abbrev pub StopsCommand : {R W L : Type 0} → Input R → Output W → Output L → Command → Fault → Type 0
StopsCommand input output log command f =
    (IsUnread input f × Untouched output × Untouched log) ⊎ ReadsAndAnswers input output log command (Some f)

-- The run stopped at a fault, with its status. `met` is the log when the fault came; after that the fault is
-- reported.
pub record StopsRun {R W L : Type 0} (input : Input R) (output : Output W) (log : Output L)
    (request : Request) (status : ℕ) : Type 0 where
  pub fault : Fault
  pub status_is : status ≡ status_of fault
  pub met : Watched L
  pub refused : StopsCommand input output (record log { after = met }) request.command fault
  pub reported : ReportsTo (out_of request) log.contents met log.after fault

-- an output that failed was reported after the command's log
pub record PrintsOutput {L : Type 0} (log : Output L) (request : Request) : Type 0 where
  pub met : Watched L
  pub silent : IsSilent request.command → met ≡ log.before
  pub line : Logs log.contents met log.after (write_line (out_of request))

-- the log of a command that has one failed
pub record IsLogFailed {L : Type 0} (log : Output L) (command : Command) : Type 0 where
  pub not_silent : IsSilent command → ⊥
  pub failures : log.after.failures ≡ one_more log.before.failures
