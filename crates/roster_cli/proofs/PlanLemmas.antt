-- How `plan` ends: whatever roster its run reached, it is one that a run reaches from the nearest roster that
-- it found.
use Rattle.std.proofs.Common.{◌≡◌, ◌*◌, ◌≤◌, ◌⊎◌, [], ◌∷◌, ℕ, Bool, Err, List, Ok, Option, Result, Some, false, inl, true, refl}
use Rattle.std.specs.Prelude.{IfErr, OnOk, min}
use Rattle.roster_text.specs.Io.{Watched, Writes}
use Rattle.roster_rules.specs.HardRules.{hard_faults}
use Rattle.roster_rules.specs.declared.fault.HardFault.{HardFault}
use Rattle.roster_instance.specs.Faults.{first_fault, is_none_of}
use Rattle.roster_instance.specs.Meaning.{Meaning, day_count}
use Rattle.roster_instance.specs.Rosters.{Rows, fits_case}
use Rattle.roster_case.specs.Shown.{weeks_text}
use Rattle.roster_reports.specs.declared.log_fault.LogFault.{LogFault}
use Rattle.roster_costs.specs.Irreparable.{irreparable}
use Rattle.roster_costs.specs.Minimums.{missing}
use Rattle.roster_polish.specs.Plans.{IsPlanned}
use Rattle.roster_polish.specs.Polished.{IsPolishing, PolishLogStops, Polishes, most_searches}
use Rattle.roster_polish.specs.declared.run.Polished.{Polished}
use Rattle.roster_answers.specs.Answer.{Output, Reports, StopsOutput, Untouched, outcome_of}
use Rattle.roster_cli.specs.Answer.{HasSearched, IsPlanReport, IsUnfound, plan_report}
use Rattle.roster_reports.specs.Lines.{Text}
use Rattle.roster_answers.specs.Lines.{IsFirstBreach}
use Rattle.roster_answers.specs.declared.fault.Fault.{Fault}
use Rattle.roster_answers.specs.declared.fault.Fault.TheVariants as fault
use Rattle.roster_answers.proofs.AnswerLemmas.{written_ends, written_log}
use Rattle.roster_cli.proofs.AnswerLemmas.{no_plan, planned_self, unplanned}
use Rattle.roster_cli.proofs.PolishLemmas.{more_kicks}

-- some breach is the first
none_is_first : (broken : List HardFault) (f : HardFault) → first_fault broken ≡ Some f → is_none_of broken ≡ false
none_is_first [] f h = absurd (cc)
none_is_first (x ∷ xs) f h = refl

-- a roster that is reported as not found breaks a hard rule; so either all searches were made or another reason
-- holds
pub unfound_after : (Reason : Type 0) (c : Meaning) (searches meter : ℕ) (broken : List HardFault) (f : Fault) → IsUnfound c broken f → (is_none_of broken ≡ false → (min searches most_searches * day_count c ≤ meter) ⊎ Reason)
    → HasSearched c searches meter f ⊎ Reason
unfound_after reason c searches meter broken (fault.Text f) h made = inl tt
unfound_after reason c searches meter broken (fault.Case f nurse) h made = inl tt
unfound_after reason c searches meter broken (fault.Hard f d) h made = inl tt
unfound_after reason c searches meter broken (fault.Unfound f d) h made = made (none_is_first broken f h.0)
unfound_after reason c searches meter broken (fault.Unknown thing name) h made = inl tt
unfound_after reason c searches meter broken fault.Memory h made = inl tt
unfound_after reason c searches meter broken fault.Workspace h made = inl tt
unfound_after reason c searches meter broken fault.Output h made = inl tt
unfound_after reason c searches meter broken fault.Log h made = inl tt

-- an output that fails is no such report
pub written_after : (Reason : Type 0) {X W : Type 0} (c : Meaning) (searches meter : ℕ) (contents : W → Option (List ℕ)) (old new : Watched W) (text : Text) (result : Result X Fault) → IfErr result (StopsOutput contents old new text)
    → IfErr result (λ f. HasSearched c searches meter f ⊎ Reason)
written_after reason c searches meter contents old new text (Ok x) h = tt
written_after reason c searches meter contents old new text (Err (fault.Text f)) h = inl tt
written_after reason c searches meter contents old new text (Err (fault.Case f nurse)) h = inl tt
written_after reason c searches meter contents old new text (Err (fault.Hard f d)) h = inl tt
written_after reason c searches meter contents old new text (Err (fault.Unfound f d)) h = absurd h
written_after reason c searches meter contents old new text (Err (fault.Unknown thing name)) h = inl tt
written_after reason c searches meter contents old new text (Err fault.Memory) h = inl tt
written_after reason c searches meter contents old new text (Err fault.Workspace) h = inl tt
written_after reason c searches meter contents old new text (Err fault.Output) h = inl tt
written_after reason c searches meter contents old new text (Err fault.Log) h = inl tt

module _ (searches from : ℕ) (alone : Bool) (c : Meaning) (r : Rows) {W L : Type 0} (output : Output W) (log : Output L) where
  -- `plan` looks for no roster
  pub plan_refused : (f : Fault) → IsFirstBreach c (irreparable c from r) f → Untouched output → Untouched log → Reports output log (IsPlanReport searches from alone c r) c (Some f)
  plan_refused (fault.Text f) h o l = absurd h
  plan_refused (fault.Case f nurse) h o l = absurd h
  plan_refused (fault.Hard f d) h o l = record { report = unplanned from r c r; is = no_plan searches from alone c r r (λ e. e) (planned_self c from r); ends = record { ends = h; left = o }; logged = l }
  plan_refused (fault.Unfound f d) h o l = absurd h
  plan_refused (fault.Unknown thing name) h o l = absurd h
  plan_refused fault.Memory h o l = absurd h
  plan_refused fault.Workspace h o l = absurd h
  plan_refused fault.Output h o l = absurd h
  plan_refused fault.Log h o l = absurd h

  module _ (repairable : irreparable c from r ≡ []) where
    -- there is no memory for the search
    pub plan_roomless : Untouched output → Untouched log → Reports output log (IsPlanReport searches from alone c r) c (Some fault.Workspace)
    plan_roomless o l = record { report = unplanned from r c r; is = no_plan searches from alone c r r (λ e. e) (planned_self c from r); ends = record { ends = (repairable, refl, refl); left = o }; logged = l }

    module _ (nearest : Rows) (fits : fits_case c r ≡ true → fits_case c nearest ≡ true) (planned : IsPlanned c from r nearest) where
      -- the nearest roster is not held
      pub plan_unfound : (f : Fault) → IsUnfound c (hard_faults c nearest) f → Untouched output → Untouched log → Reports output log (IsPlanReport searches from alone c r) c (Some f)
      plan_unfound (fault.Text f) h o l = absurd h
      plan_unfound (fault.Case f nurse) h o l = absurd h
      plan_unfound (fault.Hard f d) h o l = absurd h
      plan_unfound (fault.Unfound f d) h o l = record { report = unplanned from nearest c r; is = no_plan searches from alone c r nearest fits planned; ends = record { ends = (repairable, h); left = o }; logged = l }
      plan_unfound (fault.Unknown thing name) h o l = absurd h
      plan_unfound fault.Memory h o l = record {
        report = unplanned from nearest c r;
        is = no_plan searches from alone c r nearest fits planned;
        ends = record { ends = (record { kept = repairable; found = h; known = refl }, refl); left = o };
        logged = l;
      }
      plan_unfound fault.Workspace h o l = absurd h
      plan_unfound fault.Output h o l = absurd h
      plan_unfound fault.Log h o l = absurd h

      module _ (kept : hard_faults c nearest ≡ []) (few : ℕ) (fewer : few ≤ searches) where
        of_run : (settled : Bool) (last : Rows) (log_text : Text) → IsPolishing c from nearest (missing c r) few alone settled last log_text → IsPlanReport searches from alone c r (plan_report from nearest last log_text c r)
        of_run settled last log_text run = record { nearest = nearest; fits = fits; planned = planned; settled = settled; last = last; log_text = log_text; run = λ accepted. more_kicks fewer run; is = refl }

        -- the log failed inside the run
        pub plan_stops : (after : Rows) (f : LogFault) → PolishLogStops log.contents c from nearest (missing c r) few alone after log.before log.after f → Untouched output
            → Reports output log (IsPlanReport searches from alone c r) c (Some fault.Log)
        plan_stops after f h o = record {
          report = plan_report from nearest h.last h.text c r;
          is = of_run h.settled h.last h.text h.run;
          ends = record { ends = (record { kept = repairable; found = kept; known = refl }, refl); left = o };
          logged = record { sent = h.sent; stops = h.stops };
        }

        -- the run was made; its roster was written, or the output failed
        pub plan_ends : {X : Type 0} (last : Rows) (polished : Polished) (result : Result X Fault) → Polishes log.contents c from nearest (missing c r) few alone last log.before log.after polished
            → OnOk result (Writes output.contents output.before output.after (weeks_text c last))
            → IfErr result (StopsOutput output.contents output.before output.after (weeks_text c last))
            → Reports output log (IsPlanReport searches from alone c r) c (outcome_of result)
        plan_ends last polished result h ok err =
            let report = plan_report from nearest last h.text c r in
            record {
              report = report;
              is = of_run polished.settled last h.text h.run;
              ends = written_ends output report c result (record { kept = repairable; found = kept; known = refl }) ok err;
              logged = written_log output log (Some h.text) (weeks_text c last) result h.writes err;
            }
