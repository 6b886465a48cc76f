-- What a command answers: its devices, how it ends, its report, and what is left of the report's texts.
use Rattle.std.specs.Prelude.{◌≡◌, ◌≢◌, ℕ, ◌/◌, ◌%◌, ◌≤◌, ◌⊎◌, ◌++◌, Bool, true, false, List, [], IfSome, Ok, Err, Option, None, Some, Result, codes, decimal, flat_map, if◌then◌else◌, is_some, length, map, nat_lt, option_and_then, option_map, unwrap_or}
use Rattle.std.specs.Borrow.{Bor}
use Rattle.std.specs.List.{range_with_len}
use Rattle.std.specs.Option.{option_or}
use Rattle.std.specs.Io.KnownBytes.{IsAtEnd}
use Rattle.roster_text.specs.FirstFault.{IsFirstFault}
use Rattle.roster_text.specs.Grammar.{Spells}
use Rattle.roster_text.specs.Io.{Stops, Watched, Writes, one_more}
use Rattle.roster_bundle.specs.Canonical.{weekday_text}
use Rattle.roster_bundle.specs.Limits.{most_bytes}
use Rattle.roster_bundle.specs.Token.{all_seen, line_at_end, tokens_of}
use Rattle.roster_bundle.specs.declared.bundle.Bundle.{Bundle}
use Rattle.roster_text.specs.declared.fault.TextFault.{TextFault}
use Rattle.roster_text.specs.declared.fault.TextFault.TheVariants as text
use Rattle.roster_rules.specs.AllowedRows.{best_row}
use Rattle.roster_instance.specs.Bundles.{meaning_of, rows_of}
use Rattle.roster_instance.specs.Faults.{first_fault}
use Rattle.roster_rules.specs.HardRules.{hard_faults}
use Rattle.roster_instance.specs.Meaning.{Meaning, day_count, keeping, nurse_name, shift_at, skill_at, week_count}
use Rattle.roster_instance.specs.Limits.{most_weeks}
use Rattle.roster_instance.specs.Names.{find_name}
use Rattle.roster_rules.specs.Penalties.{costs_of, penalty}
use Rattle.roster_instance.specs.Refusals.{all_faults}
use Rattle.roster_instance.specs.Rosters.{Rows, fits_case, with_row}
use Rattle.roster_case.specs.Shown.{weeks_text}
use Rattle.roster_costs.specs.Irreparable.{irreparable}
use Rattle.roster_instance.specs.declared.fault.CaseFault.{CaseFault}
use Rattle.roster_instance.specs.declared.fault.CaseFault.TheVariants.{Memory}
use Rattle.roster_rules.specs.declared.fault.HardFault.{HardFault}
use Rattle.roster_rules.specs.Improver.{log_of, run}
use Rattle.roster_rounds.specs.RunLogs.{text_of}
use Rattle.roster_bound.specs.declared.effort.Effort.{Effort}
use Rattle.roster_bound.specs.declared.effort.Task.{Task}
use Rattle.roster_bound.specs.BoundLogs.{BoundLine, IsBoundLog, bound_log_text, last_line, no_line}
use Rattle.roster_bound.specs.Rounds.{AreLinesOfRounds}
use Rattle.roster_prices.specs.LowerBounds.{IsLowerBound}
use Rattle.roster_who.specs.Who.{AreInOrder, missed as missed_of, takers, without_absent_work}
use Rattle.roster_who.specs.declared.asked.Asked.{Asked}
use Rattle.roster_who.specs.declared.taker.Taker.{Taker}
use Rattle.roster_reports.specs.Lines.{Text, bound_text, costs_text, nurse_of, taker_line}
use Rattle.roster_json.specs.Reports.{json_taker}
use Rattle.roster_answers.specs.Lines.{IsFirstBreach, best_log, fault_line}
use Rattle.roster_answers.specs.declared.fault.Fault.{Fault}
use Rattle.roster_answers.specs.declared.fault.Fault.TheVariants as fault
use Rattle.roster_answers.specs.declared.asked.Asking.{Asking}
use Rattle.roster_answers.specs.declared.fault.Thing.{Thing}
use Rattle.roster_answers.specs.declared.fault.Thing.TheVariants as thing
use Rattle.roster_answers.specs.declared.instance.Instance.{Instance}

-- ---- the devices of a run

-- an input before and after a run; `remaining` is what a reader has left
pub record Input (R : Type 0) : Type 0 where
  pub remaining : R → Option Text
  pub before : Watched R
  pub after : Watched R

-- an output or a log before and after a run; `contents` is what a writer holds
pub record Output (W : Type 0) : Type 0 where
  pub contents : W → Option Text
  pub before : Watched W
  pub after : Watched W

-- the input of a reader with this state before, and this one after
abbrev pub input_of : {R : Type 0} → (R → Option Text) → Watched R → Watched R → Input R
input_of remaining before after = record { remaining = remaining; before = before; after = after }

-- the output, or the log, of such a writer
abbrev pub output_of : {W : Type 0} → (W → Option Text) → Watched W → Watched W → Output W
output_of contents before after = record { contents = contents; before = before; after = after }

-- these are all bytes of the reader, and no read failed
pub record ReadsAll {R : Type 0} (input : Input R) (bytes : Text) : Type 0 where
  pub all : IfSome (input.remaining input.before.inner) (λ given. bytes ≡ given)
  pub end : IsAtEnd (input.remaining input.after.inner)
  pub kept : length bytes ≤ most_bytes
  pub failures : input.after.failures ≡ input.before.failures

-- nothing was written
abbrev pub Untouched : {W : Type 0} → Output W → Type 0
Untouched output = output.after ≡ output.before

-- the log has all lines of a command, if the command has a log
abbrev pub Logged : {L : Type 0} → Output L → Option Text → Type 0
Logged log None = Untouched log
Logged log (Some log_text) = Writes log.contents log.before log.after log_text

-- a write failed inside the lines of a command's log
abbrev pub StopsLog : {L : Type 0} → Output L → Option Text → Type 0
StopsLog log None = ⊥
StopsLog log (Some log_text) = Stops log.contents log.before log.after log_text

-- the log has the line, or a write failed inside it
abbrev pub Logs : {L : Type 0} → (L → Option (List ℕ)) → Watched L → Watched L → Text → Type 0
Logs contents old new line = Writes contents old new line ⊎ Stops contents old new line

-- a fault is reported by its line; if the log itself has failed, nothing more is written
abbrev pub ReportsFault : {L : Type 0} → (L → Option (List ℕ)) → Watched L → Watched L → Fault → Type 0
ReportsFault contents old new fault.Log = new ≡ old
ReportsFault contents old new f = Logs contents old new (fault_line f)

-- one more call of a device has failed
abbrev pub FailsOnce : {W : Type 0} → (old new : Watched W) → Type 0
FailsOnce old new = new.failures ≡ one_more old.failures

-- ---- how a run ends: it is done, or stops at a fault

-- no fault if the run is done, else the fault at which it stops
abbrev pub CommandEnd : Type 0
CommandEnd = Option Fault

-- the outcome of a call's answer
abbrev pub outcome_of : {X : Type 0} → Result X Fault → CommandEnd
outcome_of (Ok x) = None
outcome_of (Err f) = Some f

-- what a run leaves of its text: all, if it is done; a beginning, if the output failed; else nothing
abbrev pub Leaves : {W : Type 0} → Output W → Text → CommandEnd → Type 0
Leaves output text None = Writes output.contents output.before output.after text
Leaves output text (Some fault.Output) = Stops output.contents output.before output.after text
Leaves output text (Some (fault.Text f)) = Untouched output
Leaves output text (Some (fault.Case f nurse)) = Untouched output
Leaves output text (Some (fault.Hard f d)) = Untouched output
Leaves output text (Some (fault.Unfound f d)) = Untouched output
Leaves output text (Some (fault.Unknown thing name)) = Untouched output
Leaves output text (Some fault.Memory) = Untouched output
Leaves output text (Some fault.Workspace) = Untouched output
Leaves output text (Some fault.Log) = Untouched output

-- what it leaves of its log before a fault is reported: all, if it is done or the output failed; a beginning,
-- if the log failed; else nothing
abbrev pub LeavesLog : {L : Type 0} → Output L → Option Text → CommandEnd → Type 0
LeavesLog log log_text None = Logged log log_text
LeavesLog log log_text (Some fault.Output) = Logged log log_text
LeavesLog log log_text (Some fault.Log) = StopsLog log log_text
LeavesLog log log_text (Some (fault.Text f)) = Untouched log
LeavesLog log log_text (Some (fault.Case f nurse)) = Untouched log
LeavesLog log log_text (Some (fault.Hard f d)) = Untouched log
LeavesLog log log_text (Some (fault.Unfound f d)) = Untouched log
LeavesLog log log_text (Some (fault.Unknown thing name)) = Untouched log
LeavesLog log log_text (Some fault.Memory) = Untouched log
LeavesLog log log_text (Some fault.Workspace) = Untouched log

-- ---- the bytes

-- the bytes spell the bundle
abbrev pub SpellsBundle : Text → Bundle → Type 0
SpellsBundle bytes b = Spells (all_seen bytes (tokens_of bytes)) b

-- the bytes have this fault
abbrev pub HasFault : Text → TextFault → Type 0
HasFault bytes text.Memory = Unit {0}
HasFault bytes text.ReadFailed = ⊥
HasFault bytes text.TooLong = ⊥
HasFault bytes f = IsFirstFault (line_at_end bytes) (all_seen bytes (tokens_of bytes)) f

-- ---- a case and its roster: what a command answers for them

-- what a command requires of them and writes for them
pub record Report : Type 0 where
  -- whether it holds the roster, and so takes memory for what it keeps with it
  pub is_held : Bool
  -- the breaches of the hard rules for which it refuses them, in their order
  pub broken : List HardFault
  -- if it looks for a roster, the breaches of the nearest one that it found
  pub unfound : List HardFault
  -- what it is asked about, if the case has nothing of that name
  pub unknown : Option (Thing × Text)
  pub output : Text
  -- the lines of its log, if it has one
  pub log : Option Text

-- a command that writes a text and requires nothing
abbrev pub plain : Text → Report
plain text = record { is_held = false; broken = []; unfound = []; unknown = None; output = text; log = None }

-- the number of a name among these; it is used only if the name is one of them
abbrev pub number_among : List Text → Text → ℕ
number_among names name = unwrap_or (find_name names name) 0

-- the name, if it is none of these
abbrev pub unknown_among : Thing → List Text → Text → Option (Thing × Text)
unknown_among thing names name = if is_some (find_name names name) then None else Some (thing, name)

-- the same for a nurse
abbrev pub number_of : Meaning → Text → ℕ
number_of c name = number_among c.nurse_names name

abbrev pub unknown_in : Meaning → Text → Option (Thing × Text)
unknown_in c name = unknown_among thing.Nurse c.nurse_names name

-- the roster with the best row of this nurse from a week on put in
abbrev pub with_best : Meaning → ℕ → Rows → ℕ → Rows
with_best c from r n = with_row r n (unwrap_or (best_row c from r n) [])

-- what each soft rule costs
abbrev pub cost_report : Meaning → Rows → Report
cost_report c r = record (plain (costs_text (costs_of c r))) { is_held = true; broken = hard_faults c r }

-- the log of a search for that row: what the roster costs before, and what it costs with it
abbrev pub log_with_best : Meaning → ℕ → Rows → ℕ → Text → Text
log_with_best c from r n name = best_log c (penalty c r) name (penalty c (with_best c from r n))

-- the best row of the nurse of this name from a week on
abbrev pub best_report : Text → ℕ → Meaning → Rows → Report
best_report name from c r =
    let better = with_best c from r (number_of c name) in
    record {
      is_held = true;
      broken = hard_faults c r;
      unfound = [];
      unknown = unknown_in c name;
      output = weeks_text c better;
      log = Some (log_with_best c from r (number_of c name) name);
    }

-- the roster after a run of at most this number of rounds from a week on
abbrev pub improved : Meaning → (rounds from : ℕ) → Rows → Rows
improved c rounds from r = (run c (best_row c from) rounds r).roster

-- the lines of the run's log
abbrev pub run_log : Meaning → (rounds from : ℕ) → Rows → Text
run_log c rounds from r = text_of c (log_of c (best_row c from) rounds r)

-- the run
abbrev pub improve_report : (rounds from : ℕ) → Meaning → Rows → Report
improve_report rounds from c r =
    record (plain (weeks_text c (improved c rounds from r)))
    { is_held = true; broken = hard_faults c r; log = Some (run_log c rounds from r) }

-- what the roster costs, and the last of the lower bounds that were reached, each with its round; 0 if there
-- is none
abbrev pub bound_report : List BoundLine → Meaning → Rows → Report
bound_report lines c r =
    record (plain (bound_text (penalty c r) (last_line no_line lines).bound))
    { is_held = true; broken = hard_faults c r; log = Some (bound_log_text c r lines) }

-- The report is of lower bounds on all rosters that keep the hard rules and the frozen days. The bound of the
-- first round is defined, and the last bound is no less; how great later ones become isn't stated. The lines
-- of a case within the limits are those of its rounds, of which none is left out without a reason, and of
-- branchings.
pub record IsBoundReport (effort : Effort) (from : ℕ) (c : Meaning) (r : Rows) (p : Report) : Type 0 where
  pub lines : List BoundLine
  pub is_log : IsBoundLog c from r effort lines
  pub below : IsLowerBound c from r (last_line no_line lines).bound
  pub rounds : week_count c ≤ most_weeks → AreLinesOfRounds c from r effort.rounds lines
  pub is : p ≡ bound_report lines c r

-- the same of a run that may have a limit of time: with one, it can end before all rounds and branchings are
-- made that were asked for
pub record IsBoundWithin (asked : Effort) (limit : Option ℕ) (from : ℕ) (c : Meaning) (r : Rows)
    (p : Report) : Type 0 where
  pub made : Effort
  pub rounds : made.rounds ≤ asked.rounds
  pub nodes : made.nodes ≤ asked.nodes
  pub all : limit ≡ None → made ≡ asked
  pub report : IsBoundReport made from c r p

-- the names of days: each is its week and its weekday, as in 1:Wed
abbrev pub day_name : ℕ → Text
day_name d = decimal (d / 7) ++ codes ":" ++ weekday_text (d % 7)

abbrev pub day_names : Meaning → List Text
day_names c = map day_name (range_with_len 0 (day_count c))

-- the names of an assignment: of its day, of its shift, and of a skill if one is named
pub record AskedNames : Type 0 where
  pub day : Text
  pub shift : Text
  pub skill : Option Text

abbrev pub names_in : Asking → AskedNames
names_in asking =
    record {
      day = asking.day.now;
      shift = asking.shift.now;
      skill = option_map (λ (name : Bor Text). name.now) asking.skill;
    }

-- the assignment of these names; it is used only if the case has them
abbrev pub asked_by : Meaning → AskedNames → Asked
asked_by c names = record {
  day = number_among (day_names c) names.day;
  shift = shift_at (number_among c.shift_names names.shift);
  skill = option_map (λ name. skill_at (number_among c.skill_names name)) names.skill;
}

-- the first of the names that the case doesn't have
abbrev pub unknown_asked : Meaning → AskedNames → Option (Thing × Text)
unknown_asked c names =
    option_or (unknown_among thing.Day (day_names c) names.day)
    (option_or (unknown_among thing.Shift c.shift_names names.shift)
    (option_and_then (unknown_among thing.Skill c.skill_names) names.skill))

-- a line for each nurse who may take an assignment, as JSON or not, with how many nurses are still lacking;
-- a line that isn't JSON says so if the roster is short of minimums
abbrev pub who_line : Meaning → Bool → ℕ → Taker → Text
who_line c true missed t = json_taker c t.nurse t.penalty t.changed t.missed
who_line c false missed t =
    taker_line (nurse_name c t.nurse) t.penalty t.changed (if nat_lt 0 missed then Some t.missed else None)

abbrev pub who_text : Meaning → Bool → ℕ → List Taker → Text
who_text c json missed listed = flat_map (who_line c json missed) listed

abbrev pub who_report : AskedNames → (from : ℕ) → Bool → List Taker → Meaning → Rows → Report
who_report names from json listed c r =
    record (plain (who_text c json (missed_of c (without_absent_work c r)) listed))
    { is_held = true; broken = irreparable c from r; unknown = unknown_asked c names }

-- The report lists all nurses who may take it, in order. What absent nurses work in the roster doesn't count.
pub record IsWhoReport (names : AskedNames) (from : ℕ) (json : Bool) (c : Meaning) (r : Rows)
    (p : Report) : Type 0 where
  pub listed : List Taker
  pub in_order : AreInOrder (takers c from (without_absent_work c r) (asked_by c names)) listed
  pub is : p ≡ who_report names from json listed c r

-- ---- the same for an instance that was read

abbrev pub IsBoundFor : {K : Type 0} → Task K → Instance → Report → Type 0
IsBoundFor task instance p =
    IsBoundWithin task.effort task.deadline.ends task.from instance.case instance.roster p

abbrev pub IsWhoFor : AskedNames → (from : ℕ) → Bool → Instance → Report → Type 0
IsWhoFor names from json instance p = IsWhoReport names from json instance.case instance.roster p

-- ---- what is refused

-- nothing is refused
pub record IsAllowed (p : Report) : Type 0 where
  pub kept : p.broken ≡ []
  pub found : p.unfound ≡ []
  pub known : p.unknown ≡ None

-- how a command with this report ends for this case; the first of its faults is reported
abbrev pub IsOutcomeOf : Report → Meaning → CommandEnd → Type 0
IsOutcomeOf p c None = IsAllowed p
IsOutcomeOf p c (Some fault.Output) = IsAllowed p
IsOutcomeOf p c (Some fault.Log) = IsAllowed p × (is_some p.log ≡ true)
IsOutcomeOf p c (Some (fault.Hard f d)) = IsFirstBreach c p.broken (fault.Hard f d)
IsOutcomeOf p c (Some (fault.Unfound f d)) =
    (p.broken ≡ []) × IsFirstBreach c p.unfound (fault.Hard f d)
IsOutcomeOf p c (Some (fault.Unknown thing name)) =
    (p.broken ≡ []) × (p.unknown ≡ Some (thing, name.now))
IsOutcomeOf p c (Some fault.Memory) = IsAllowed p × (p.is_held ≡ true)
IsOutcomeOf p c (Some fault.Workspace) = (p.broken ≡ []) × (p.unknown ≡ None) × (p.is_held ≡ true)
IsOutcomeOf p c (Some (fault.Text f)) = ⊥
IsOutcomeOf p c (Some (fault.Case f nurse)) = ⊥

-- the same, with what it leaves of its text
pub record Ends {W : Type 0} (output : Output W) (p : Report) (c : Meaning)
    (outcome : CommandEnd) : Type 0 where
  pub ends : IsOutcomeOf p c outcome
  pub left : Leaves output p.output outcome

-- a command with such a report ends so for this case, and leaves this much of its text and of its log
pub record Reports {W L : Type 0} (output : Output W) (log : Output L) (is_report : Report → Type 0)
    (c : Meaning) (outcome : CommandEnd) : Type 0 where
  pub report : Report
  pub is : is_report report
  pub ends : Ends output report c outcome
  pub logged : LeavesLog log report.log outcome

-- the same for a command without a log
pub record EndsBy {W : Type 0} (output : Output W) (is_report : Report → Type 0) (c : Meaning)
    (outcome : CommandEnd) : Type 0 where
  pub report : Report
  pub is : is_report report
  pub ends : Ends output report c outcome

-- why a text was not written whole, and what was written
abbrev pub StopsOutput : {W : Type 0} → (W → Option (List ℕ)) → Watched W → Watched W → Text → Fault → Type 0
StopsOutput contents old new text fault.Output = Stops contents old new text
StopsOutput contents old new text _ = ⊥

-- why a roster is not held: the first of these breaches, or want of memory if there is none
abbrev pub IsUnheld : Meaning → List HardFault → Fault → Type 0
IsUnheld c broken fault.Memory = broken ≡ []
IsUnheld c broken f = IsFirstBreach c broken f

-- ---- a bundle: the same, and why it is refused

-- the roster of its solutions, by the names of its own case
abbrev pub roster_of : Text → Bundle → Rows
roster_of bytes b = rows_of bytes (meaning_of bytes b) b

-- the first fault of its case and its solutions, want of memory aside, with the name of the nurse that it is
-- about
pub record IsRefusedFor (bytes : Text) (b : Bundle) (f : CaseFault) (nurse : Text) : Type 0 where
  pub first : f ≢ Memory → first_fault (all_faults bytes b) ≡ Some f
  pub nurse_is : nurse ≡ nurse_of bytes b f

-- its case and its roster are accepted, the roster fits the case, and a command of this report, which charges
-- these points for days that change from the roster, ends so for them
pub record IsTaken (p : Report) (keep : ℕ) (bytes : Text) (b : Bundle) (outcome : CommandEnd) : Type 0 where
  pub taken : all_faults bytes b ≡ []
  pub fits : fits_case (meaning_of bytes b) (roster_of bytes b) ≡ true
  pub ends : IsOutcomeOf p (keeping (meaning_of bytes b) (roster_of bytes b) keep) outcome

-- ---- a command, from the bytes

-- the bytes spell a bundle whose case or solutions have this fault first
pub record HasCaseFault (bytes : Text) (f : CaseFault) (nurse : Text) : Type 0 where
  pub bundle : Bundle
  pub spelled : SpellsBundle bytes bundle
  pub refused : IsRefusedFor bytes bundle f nurse

-- the bytes spell a bundle, which is accepted, and the instance has its case and its roster
pub record SpellsInstance (bytes : Text) (instance : Instance) : Type 0 where
  pub bundle : Bundle
  pub spelled : SpellsBundle bytes bundle
  pub taken : all_faults bytes bundle ≡ []
  pub case : instance.case ≡ meaning_of bytes bundle
  pub roster : instance.roster ≡ rows_of bytes instance.case bundle

-- an instance that charges for days that change from its roster; the rest of it stays
pub record IsKeptAt (given : Instance) (keep : ℕ) (kept : Instance) : Type 0 where
  pub case : kept.case ≡ keeping given.case given.roster keep
  pub roster : kept.roster ≡ given.roster

-- why the bytes are refused by every command
abbrev pub StopsReading : Text → Fault → Type 0
StopsReading bytes (fault.Text f) = HasFault bytes f
StopsReading bytes (fault.Case f nurse) = HasCaseFault bytes f nurse.now
StopsReading bytes _ = ⊥
