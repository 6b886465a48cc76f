-- What a bundle means, and how a command ends.
use Rattle.std.proofs.Common.{◌≡◌, ◌∙◌, ◌==◌, [], ℕ, if◌then◌else◌, Err, List, Option, None, Some, Result, Ok, ap, length, refl, subst, sym, true≢false, is_some, false, true, Bool}
use Rattle.std.specs.Prelude.{IfErr, OnErr, OnOk}
use Rattle.std.proofs.lemmas.List.{length-map}
use Rattle.roster_text.specs.Grammar.{Spells}
use Rattle.roster_text.specs.Io.{Writes}
use Rattle.roster_bundle.specs.Token.{all_seen, tokens_of}
use Rattle.roster_bundle.specs.declared.bundle.Bundle.{Bundle}
use Rattle.roster_instance.specs.Bundles.{meaning_of, week_meant}
use Rattle.roster_instance.specs.Checking.{IsFirst}
use Rattle.roster_instance.specs.Meaning.{Meaning, keeping, week_count}
use Rattle.roster_instance.specs.Names.{nurse_names, shift_names, skill_names}
use Rattle.roster_instance.specs.Refusals.{all_faults, case_faults, roster_faults}
use Rattle.roster_instance.specs.declared.fault.CaseFault.{CaseFault}
use Rattle.roster_instance.proofs.Sections.{IsFirst-after}
use Rattle.roster_rules.specs.declared.fault.HardFault.{HardFault}
use Rattle.roster_answers.specs.Answer.{Ends, IsAllowed, IsUnheld, LeavesLog, Logged, CommandEnd, Output, Report, StopsOutput, Untouched, outcome_of, plain}
use Rattle.roster_reports.specs.Lines.{Text}
use Rattle.roster_answers.specs.declared.fault.Fault.{Fault}
use Rattle.roster_answers.specs.declared.fault.Fault.TheVariants as fault
use Rattle.roster_instance.specs.Rosters.{Rows, fits_case}

-- ---- a bundle

weeks_meant : (source : Text) (b : Bundle) → week_count (meaning_of source b) ≡ length b.week_data
unfolding meaning_of
weeks_meant source b = length-map b.week_data (week_meant source (shift_names source b) (skill_names source b) (nurse_names source b))

-- a solution for each week of its case
pub as_many_solutions : (source : Text) (b : Bundle) (c : Meaning) → Spells (all_seen source (tokens_of source)) b → c ≡ meaning_of source b → length b.solutions ≡ week_count c
as_many_solutions source b c spelled is = spelled.solution_parts ∙ sym spelled.week_data_parts ∙ sym (weeks_meant source b) ∙ sym (ap week_count is)

pub first_of_roster : (source : Text) (b : Bundle) (c : Meaning) (f : CaseFault) → c ≡ meaning_of source b → case_faults source b ≡ [] → IsFirst (roster_faults source c b) f → IsFirst (all_faults source b) f
first_of_roster source b c f is none first =
    IsFirst-after (case_faults source b) (roster_faults source (meaning_of source b) b) f none (subst (λ m. IsFirst (roster_faults source m b) f) is first)

-- ---- a case that keeps a roster

-- the same rosters fit a case, whatever roster it keeps
pub fits_kept : (c : Meaning) (rows : Rows) (keep : ℕ) (r : Rows) → fits_case c r ≡ true → fits_case (keeping c rows keep) r ≡ true
fits_kept c rows keep r fits = go (keep == 0)
  where
    go : (b : Bool) → fits_case (if b then c else record c { base = rows; keep = keep }) r ≡ true
    go true = fits
    go false = fits

-- ---- a command for an instance

-- what holds anyway holds if there is no fault
pub OnOk-always : {X E : Type 0} (r : Result X E) (P : Type 0) → P → OnOk r P
OnOk-always (Ok x) P p = p
OnOk-always (Err e) P p = tt

-- and if there is one
pub OnErr-always : {X E : Type 0} (r : Result X E) (P : Type 0) → P → OnErr r P
OnErr-always (Ok x) P p = tt
OnErr-always (Err e) P p = p

-- a command that is allowed, and writes its text last
pub written_ends : {W X : Type 0} (output : Output W) (p : Report) (c : Meaning) (result : Result X Fault) → IsAllowed p
    → OnOk result (Writes output.contents output.before output.after p.output) → IfErr result (StopsOutput output.contents output.before output.after p.output)
    → Ends output p c (outcome_of result)
written_ends output p c (Ok x) allowed ok err = record { ends = allowed; left = ok }
written_ends output p c (Err (fault.Text f)) allowed ok err = absurd err
written_ends output p c (Err (fault.Case f nurse)) allowed ok err = absurd err
written_ends output p c (Err (fault.Hard f d)) allowed ok err = absurd err
written_ends output p c (Err (fault.Unfound f d)) allowed ok err = absurd err
written_ends output p c (Err (fault.Unknown thing name)) allowed ok err = absurd err
written_ends output p c (Err fault.Memory) allowed ok err = absurd err
written_ends output p c (Err fault.Workspace) allowed ok err = absurd err
written_ends output p c (Err fault.Output) allowed ok err = record { ends = allowed; left = err }
written_ends output p c (Err fault.Log) allowed ok err = absurd err

-- all of its log was written before
pub written_log : {W L X : Type 0} (output : Output W) (log : Output L) (log_text : Option Text) (text : Text) (result : Result X Fault) → Logged log log_text
    → IfErr result (StopsOutput output.contents output.before output.after text) → LeavesLog log log_text (outcome_of result)
written_log output log log_text text (Ok x) logged err = logged
written_log output log log_text text (Err (fault.Text f)) logged err = absurd err
written_log output log log_text text (Err (fault.Case f nurse)) logged err = absurd err
written_log output log log_text text (Err (fault.Hard f d)) logged err = absurd err
written_log output log log_text text (Err (fault.Unfound f d)) logged err = absurd err
written_log output log log_text text (Err (fault.Unknown thing name)) logged err = absurd err
written_log output log log_text text (Err fault.Memory) logged err = absurd err
written_log output log log_text text (Err fault.Workspace) logged err = absurd err
written_log output log log_text text (Err fault.Output) logged err = logged
written_log output log log_text text (Err fault.Log) logged err = absurd err

-- a command that only writes a text
pub plain_ends : {W X : Type 0} (output : Output W) (text : Text) (c : Meaning) (result : Result X Fault) → OnOk result (Writes output.contents output.before output.after text)
    → IfErr result (StopsOutput output.contents output.before output.after text) → Ends output (plain text) c (outcome_of result)
plain_ends output text c result ok err = written_ends output (plain text) c result (record { kept = refl; found = refl; known = refl }) ok err

-- a command without a log leaves it as it was
pub silent_log : {W L : Type 0} (output : Output W) (log : Output L) (p : Report) (c : Meaning) (outcome : CommandEnd) → p.log ≡ None → Ends output p c outcome
    → Untouched log → LeavesLog log p.log outcome
silent_log output log p c None none e same = rw none same
silent_log output log p c (Some (fault.Text f)) none e same = same
silent_log output log p c (Some (fault.Case f nurse)) none e same = same
silent_log output log p c (Some (fault.Hard f d)) none e same = same
silent_log output log p c (Some (fault.Unfound f d)) none e same = same
silent_log output log p c (Some (fault.Unknown thing name)) none e same = same
silent_log output log p c (Some fault.Memory) none e same = same
silent_log output log p c (Some fault.Workspace) none e same = same
silent_log output log p c (Some fault.Output) none e same = rw none same
silent_log output log p c (Some fault.Log) none e same = absurd (true≢false (sym e.ends.1 ∙ ap is_some none))

-- a roster that is not held
pub unheld_ends : {W : Type 0} (output : Output W) (p : Report) (c : Meaning) (f : Fault) → p.is_held ≡ true → p.unfound ≡ [] → p.unknown ≡ None → IsUnheld c p.broken f
    → Untouched output → Ends output p c (Some f)
unheld_ends output p c (fault.Text f) held found known h same = absurd h
unheld_ends output p c (fault.Case f nurse) held found known h same = absurd h
unheld_ends output p c (fault.Hard f d) held found known h same = record { ends = h; left = same }
unheld_ends output p c (fault.Unfound f d) held found known h same = absurd h
unheld_ends output p c (fault.Unknown thing name) held found known h same = absurd h
unheld_ends output p c fault.Memory held found known h same = record { ends = (record { kept = h; found = found; known = known }, held); left = same }
unheld_ends output p c fault.Workspace held found known h same = absurd h
unheld_ends output p c fault.Output held found known h same = absurd h
unheld_ends output p c fault.Log held found known h same = absurd h

-- then the log is as it was
pub unheld_log : {L : Type 0} (log : Output L) (log_text : Option Text) (c : Meaning) (broken : List HardFault) (f : Fault) → IsUnheld c broken f → Untouched log
    → LeavesLog log log_text (Some f)
unheld_log log log_text c broken (fault.Text f) h same = absurd h
unheld_log log log_text c broken (fault.Case f nurse) h same = absurd h
unheld_log log log_text c broken (fault.Hard f d) h same = same
unheld_log log log_text c broken (fault.Unfound f d) h same = absurd h
unheld_log log log_text c broken (fault.Unknown thing name) h same = absurd h
unheld_log log log_text c broken fault.Memory h same = same
unheld_log log log_text c broken fault.Workspace h same = absurd h
unheld_log log log_text c broken fault.Output h same = absurd h
unheld_log log log_text c broken fault.Log h same = absurd h
