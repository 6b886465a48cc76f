-- How `bound` ends: whatever lower bounds it found, they are lower bounds of its rounds.
use Rattle.std.proofs.Common.{◌≡◌, ◌≤◌, [], ℕ, Err, None, Ok, Option, Result, Some, ap, arith, false, refl, subst}
use Rattle.std.specs.Prelude.{IfErr, OnOk}
use Rattle.roster_text.specs.Io.{Stops, Writes}
use Rattle.roster_rules.specs.HardRules.{hard_faults}
use Rattle.roster_instance.specs.Meaning.{Meaning}
use Rattle.roster_rules.specs.Penalties.{penalty}
use Rattle.roster_instance.specs.Rosters.{Rows}
use Rattle.roster_reports.specs.declared.log_fault.LogFault.{LogFault}
use Rattle.roster_bound.specs.declared.effort.Effort.{Effort}
use Rattle.roster_bound.specs.BoundLogs.{bound_log_text}
use Rattle.roster_bound.specs.BoundRuns.{BoundLogStops, RaisesBound}
use Rattle.roster_timer.specs.Deadlines.{is_at_end}
use Rattle.roster_answers.specs.Answer.{CommandEnd, IsBoundReport, IsBoundWithin, IsUnheld, Output, Reports, StopsOutput, Untouched, bound_report, outcome_of}
use Rattle.roster_reports.specs.Lines.{bound_text}
use Rattle.roster_answers.specs.declared.fault.Fault.{Fault}
use Rattle.roster_answers.specs.declared.fault.Fault.TheVariants as fault
use Rattle.roster_bound.proofs.RoundLaws.{some_log}
use Rattle.roster_offers.proofs.ScaleLaws.{one_is_scale}
use Rattle.roster_answers.proofs.AnswerLemmas.{unheld_ends, unheld_log}
use Rattle.roster_answers.proofs.BoundReports.{of_bounds}

-- a report of what was made is one of a run that may have a limit of time
pub made_within : {W L : Type 0} (output : Output W) (log : Output L) (asked made : Effort) (limit : Option ℕ) (from : ℕ) (c : Meaning) (r : Rows) (outcome : CommandEnd) → made.rounds ≤ asked.rounds → made.nodes ≤ asked.nodes → (limit ≡ None → made ≡ asked)
    → Reports output log (IsBoundReport made from c r) c outcome → Reports output log (IsBoundWithin asked limit from c r) c outcome
made_within output log asked made limit from c r outcome rounds nodes all h = record {
  report = h.report;
  is = record { made = made; rounds = rounds; nodes = nodes; all = all; report = h.is };
  ends = h.ends;
  logged = h.logged;
}

-- all that was asked for was made
pub all_within : {W L : Type 0} (output : Output W) (log : Output L) (asked : Effort) (limit : Option ℕ) (from : ℕ) (c : Meaning) (r : Rows) (outcome : CommandEnd) → Reports output log (IsBoundReport asked from c r) c outcome
    → Reports output log (IsBoundWithin asked limit from c r) c outcome
all_within output log asked limit from c r outcome h = made_within output log asked asked limit from c r outcome (omega arith) (omega arith) (λ e. refl) h

-- a time without an end isn't up
pub endless : (ends : Option ℕ) (last step : ℕ) → ends ≡ None → is_at_end ends last step ≡ false
endless ends last step none = ap (λ e. is_at_end e last step) none

module _ (effort : Effort) (from : ℕ) (c : Meaning) (r : Rows) where
  module _ {W L : Type 0} (output : Output W) (log : Output L) where
    -- nothing was found, since the roster is not held
    pub bound_unheld : (f : Fault) → IsUnheld c (hard_faults c r) f → Untouched output → Untouched log → Reports output log (IsBoundReport effort from c r) c (Some f)
    bound_unheld f h o l =
        let some = some_log c from r effort in
        record {
          report = bound_report some.0 c r;
          is = of_bounds effort from c r some.0 some.1 (λ weeks. some.2 (one_is_scale c weeks));
          ends = unheld_ends output (bound_report some.0 c r) c f refl refl refl h o;
          logged = unheld_log log (Some (bound_log_text c r some.0)) c (hard_faults c r) f h l;
        }

    -- there is no memory for the search for lower bounds
    pub bound_roomless : hard_faults c r ≡ [] → Untouched output → Untouched log → Reports output log (IsBoundReport effort from c r) c (Some fault.Workspace)
    bound_roomless kept o l =
        let some = some_log c from r effort in
        record { report = bound_report some.0 c r; is = of_bounds effort from c r some.0 some.1 (λ weeks. some.2 (one_is_scale c weeks)); ends = record { ends = (kept, refl, refl); left = o }; logged = l }

    -- the log failed inside the lines of lower bounds
    pub bound_stops : (f : LogFault) → hard_faults c r ≡ [] → BoundLogStops log.contents c from r effort log.before log.after f → Untouched output
        → Reports output log (IsBoundReport effort from c r) c (Some fault.Log)
    bound_stops f kept h o = record {
      report = bound_report h.lines c r;
      is = of_bounds effort from c r h.lines h.is_log (λ weeks. h.rounds);
      ends = record { ends = (record { kept = kept; found = refl; known = refl }, refl); left = o };
      logged = record { sent = h.sent; stops = h.stops };
    }

    -- all lower bounds were found; they were written, or the output failed
    pub bound_ends : {X : Type 0} (counted counted_after bound : ℕ) (result : Result X Fault) → hard_faults c r ≡ [] → RaisesBound log.contents c from r effort counted counted_after log.before log.after bound
        → OnOk result (Writes output.contents output.before output.after (bound_text (penalty c r) bound))
        → IfErr result (StopsOutput output.contents output.before output.after (bound_text (penalty c r) bound))
        → Reports output log (IsBoundReport effort from c r) c (outcome_of result)
    bound_ends counted counted_after bound (Ok x) kept h ok err = record {
      report = bound_report h.lines c r;
      is = of_bounds effort from c r h.lines h.is_log (λ weeks. h.rounds.are);
      ends = record { ends = record { kept = kept; found = refl; known = refl }; left = subst (λ n. Writes output.contents output.before output.after (bound_text (penalty c r) n)) h.bound_is ok };
      logged = h.writes;
    }
    bound_ends counted counted_after bound (Err (fault.Text f)) kept h ok err = absurd err
    bound_ends counted counted_after bound (Err (fault.Case f nurse)) kept h ok err = absurd err
    bound_ends counted counted_after bound (Err (fault.Hard f d)) kept h ok err = absurd err
    bound_ends counted counted_after bound (Err (fault.Unfound f d)) kept h ok err = absurd err
    bound_ends counted counted_after bound (Err (fault.Unknown thing name)) kept h ok err = absurd err
    bound_ends counted counted_after bound (Err fault.Memory) kept h ok err = absurd err
    bound_ends counted counted_after bound (Err fault.Workspace) kept h ok err = absurd err
    bound_ends counted counted_after bound (Err fault.Log) kept h ok err = absurd err
    bound_ends counted counted_after bound (Err fault.Output) kept h ok err = record {
      report = bound_report h.lines c r;
      is = of_bounds effort from c r h.lines h.is_log (λ weeks. h.rounds.are);
      ends = record { ends = record { kept = kept; found = refl; known = refl }; left = subst (λ n. Stops output.contents output.before output.after (bound_text (penalty c r) n)) h.bound_is err };
      logged = h.writes;
    }
