-- How `polish` ends: whatever roster its run reached, it is one that a run reaches.
use Rattle.std.proofs.Common.{◌≡◌, ◌≤◌, [], ℕ, Bool, Err, Ok, Result, Some, arith, refl}
use Rattle.std.specs.Prelude.{IfErr, OnOk}
use Rattle.roster_text.specs.Io.{Writes}
use Rattle.roster_rules.specs.HardRules.{hard_faults}
use Rattle.roster_rules.specs.Penalties.{penalty}
use Rattle.roster_instance.specs.Meaning.{Meaning}
use Rattle.roster_instance.specs.Rosters.{Rows}
use Rattle.roster_case.specs.Shown.{weeks_text}
use Rattle.roster_reports.specs.declared.log_fault.LogFault.{LogFault}
use Rattle.roster_polish.specs.Polished.{IsPolishing, PolishLogStops, Polishes}
use Rattle.roster_polish.specs.declared.run.Polished.{Polished}
use Rattle.roster_polish.proofs.KickLogs.{unkicked_text}
use Rattle.roster_answers.specs.Answer.{IsUnheld, Output, Reports, StopsOutput, Untouched, outcome_of}
use Rattle.roster_cli.specs.Answer.{IsPolishReport, polish_report}
use Rattle.roster_reports.specs.Lines.{Text}
use Rattle.roster_answers.specs.declared.fault.Fault.{Fault}
use Rattle.roster_answers.specs.declared.fault.Fault.TheVariants as fault
use Rattle.roster_answers.proofs.AnswerLemmas.{unheld_ends, unheld_log}
use Rattle.roster_cli.proofs.AnswerLemmas.{kickless, no_kick}

-- a run within a lower limit of kicks is one within a higher limit
pub more_kicks : {c : Meaning} {from start few many : ℕ} {alone : Bool} {given last : Rows} {settled : Bool} {log_text : Text} → few ≤ many → IsPolishing c from given start few alone settled last log_text
    → IsPolishing c from given start many alone settled last log_text
more_kicks fewer run = record {
  fade = run.fade;
  fadeless = run.fadeless;
  faded = run.faded;
  lines = run.lines;
  is_log = record { reached = run.is_log.reached; falls = run.is_log.falls; within = omega (arith, fewer, run.is_log.within) };
  reached = run.reached;
  as_logged = run.as_logged;
  no_dearer = run.no_dearer;
  is_settled = run.is_settled;
  surely = run.surely;
  text_is = run.text_is;
}

module _ (searches from : ℕ) (alone : Bool) (c : Meaning) (r : Rows) where
  of_run : (few : ℕ) → few ≤ searches → (settled : Bool) (last : Rows) (log_text : Text) → IsPolishing c from r (penalty c r) few alone settled last log_text → IsPolishReport searches from alone c r (polish_report last log_text c r)
  of_run few fewer settled last log_text run = record { settled = settled; last = last; log_text = log_text; run = λ accepted. more_kicks fewer run; is = refl }

  module _ {W L : Type 0} (output : Output W) (log : Output L) where
    -- no run was made, since the roster is not held
    pub polish_unheld : (f : Fault) → IsUnheld c (hard_faults c r) f → Untouched output → Untouched log → Reports output log (IsPolishReport searches from alone c r) c (Some f)
    polish_unheld f h o l = record {
      report = kickless from c r;
      is = no_kick searches from alone c r;
      ends = unheld_ends output (kickless from c r) c f refl refl refl h o;
      logged = unheld_log log (Some (unkicked_text c from (penalty c r) r)) c (hard_faults c r) f h l;
    }

    -- there is no memory for the run
    pub polish_roomless : hard_faults c r ≡ [] → Untouched output → Untouched log → Reports output log (IsPolishReport searches from alone c r) c (Some fault.Workspace)
    polish_roomless kept o l = record { report = kickless from c r; is = no_kick searches from alone c r; ends = record { ends = (kept, refl, refl); left = o }; logged = l }

    -- the log failed inside the run
    pub polish_stops : (few : ℕ) → few ≤ searches → (after : Rows) (f : LogFault) → hard_faults c r ≡ [] → PolishLogStops log.contents c from r (penalty c r) few alone after log.before log.after f → Untouched output
        → Reports output log (IsPolishReport searches from alone c r) c (Some fault.Log)
    polish_stops few fewer after f kept h o = record {
      report = polish_report h.last h.text c r;
      is = of_run few fewer h.settled h.last h.text h.run;
      ends = record { ends = (record { kept = kept; found = refl; known = refl }, refl); left = o };
      logged = record { sent = h.sent; stops = h.stops };
    }

    -- the run was made; its roster was written, or the output failed
    pub polish_ends : {X : Type 0} (few : ℕ) → few ≤ searches → (last : Rows) (polished : Polished) (result : Result X Fault) → hard_faults c r ≡ [] → Polishes log.contents c from r (penalty c r) few alone last log.before log.after polished
        → OnOk result (Writes output.contents output.before output.after (weeks_text c last))
        → IfErr result (StopsOutput output.contents output.before output.after (weeks_text c last))
        → Reports output log (IsPolishReport searches from alone c r) c (outcome_of result)
    polish_ends few fewer last polished (Ok x) kept h ok err = record {
      report = polish_report last h.text c r;
      is = of_run few fewer polished.settled last h.text h.run;
      ends = record { ends = record { kept = kept; found = refl; known = refl }; left = ok };
      logged = h.writes;
    }
    polish_ends few fewer last polished (Err (fault.Text f)) kept h ok err = absurd err
    polish_ends few fewer last polished (Err (fault.Case f nurse)) kept h ok err = absurd err
    polish_ends few fewer last polished (Err (fault.Hard f d)) kept h ok err = absurd err
    polish_ends few fewer last polished (Err (fault.Unfound f d)) kept h ok err = absurd err
    polish_ends few fewer last polished (Err (fault.Unknown thing name)) kept h ok err = absurd err
    polish_ends few fewer last polished (Err fault.Memory) kept h ok err = absurd err
    polish_ends few fewer last polished (Err fault.Workspace) kept h ok err = absurd err
    polish_ends few fewer last polished (Err fault.Log) kept h ok err = absurd err
    polish_ends few fewer last polished (Err fault.Output) kept h ok err = record {
      report = polish_report last h.text c r;
      is = of_run few fewer polished.settled last h.text h.run;
      ends = record { ends = record { kept = kept; found = refl; known = refl }; left = err };
      logged = h.writes;
    }
