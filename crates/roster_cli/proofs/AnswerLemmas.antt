-- Which fault a failing reader or writer causes, and that each command has a report.
use Rattle.std.proofs.Common.{◌≡◌, ◌∙◌, ◌∷◌, [], ◌<◌, ℕ, arith, Err, None, Option, Some, ap, inr, length, lit<, refl, subst, false, true, Bool}
use Rattle.std.specs.Borrow.{Bor}
use Rattle.std.specs.Prelude.{Contains, IfSome, IsErrOf, option_map, string_bytes}
use Rattle.roster_text.specs.Io.{IsReadFault, counted, is_read_failure}
use Rattle.roster_bundle.specs.Limits.{most_bytes}
use Rattle.roster_text.specs.declared.fault.TextFault.{TextFault}
use Rattle.roster_text.specs.declared.fault.TextFault.TheVariants as text
use Rattle.roster_instance.specs.Bundles.{meaning_of, rows_of}
use Rattle.roster_instance.specs.Meaning.{Meaning, keeping}
use Rattle.roster_instance.specs.declared.fault.CaseFault.TheVariants as case
use Rattle.roster_answers.specs.Answer.{Input, IsKeptAt, IsOutcomeOf, Leaves, LeavesLog, CommandEnd, Output, Report, Reports, SpellsInstance, StopsReading, Untouched, best_report, cost_report, improve_report, plain, roster_of}
use Rattle.roster_cli.specs.Answer.{Answers, IsAnswer, IsPlanReport, IsPolishReport, IsReportIn, IsUnread, case_for, keep_of, plan_report, polish_report, searches_for}
use Rattle.roster_cli.specs.Saving.{Shows, ShowsSpelled}
use Rattle.roster_reports.specs.Lines.{Text, sizes_text}
use Rattle.roster_json.specs.Reports.{json_cost, json_sizes}
use Rattle.roster_answers.specs.Lines.{status_of}
use Rattle.roster_answers.specs.declared.fault.Fault.{Fault}
use Rattle.roster_answers.specs.declared.fault.Fault.TheVariants as fault
use Rattle.roster_answers.specs.declared.instance.Instance.{Instance}
use Rattle.roster_request.specs.declared.request.Command.{Command}
use Rattle.roster_request.specs.declared.request.Command.TheVariants as command
use Rattle.roster_instance.specs.Rosters.{Rows, fits_case}
use Rattle.roster_case.specs.Shown.{weeks_text}
use Rattle.roster_rules.specs.Penalties.{penalty}
use Rattle.roster_laws.proofs.Frozen.{stays_self}
use Rattle.roster_costs.specs.Minimums.{missing}
use Rattle.roster_polish.specs.Plans.{IsPlanned}
use Rattle.roster_polish.specs.Polished.{first_run}
use Rattle.roster_polish.proofs.KickLogs.{unkicked, unkicked_text}
use Rattle.roster_answers.proofs.BoundReports.{some_report_of_bounds}
use Rattle.roster_answers.proofs.WhoLemmas.{some_who}

-- ---- statuses

pub status_listed : (f : Fault) → Contains (0 ∷ 1 ∷ 3 ∷ 4 ∷ []) (status_of f)
status_listed (fault.Text text.Memory) = (3, lit< tt, refl)
status_listed (fault.Text text.ReadFailed) = (2, lit< tt, refl)
status_listed (fault.Text text.TooLong) = (1, lit< tt, refl)
status_listed (fault.Text (text.Expected line what)) = (1, lit< tt, refl)
status_listed (fault.Text (text.NumberRange line)) = (1, lit< tt, refl)
status_listed (fault.Text (text.AfterEnd line)) = (1, lit< tt, refl)
status_listed (fault.Case case.Memory nurse) = (3, lit< tt, refl)
status_listed (fault.Case (case.Repeated line) nurse) = (1, lit< tt, refl)
status_listed (fault.Case (case.Unknown line) nurse) = (1, lit< tt, refl)
status_listed (fault.Case (case.Reserved line) nurse) = (1, lit< tt, refl)
status_listed (fault.Case (case.OtherInstance line) nurse) = (1, lit< tt, refl)
status_listed (fault.Case (case.HistoryWeek line) nurse) = (1, lit< tt, refl)
status_listed (fault.Case (case.HistoryNurses line) nurse) = (1, lit< tt, refl)
status_listed (fault.Case (case.RepeatedRequirement line) nurse) = (1, lit< tt, refl)
status_listed (fault.Case (case.Limit line) nurse) = (1, lit< tt, refl)
status_listed (fault.Case (case.TooManyStates number name) nurse) = (1, lit< tt, refl)
status_listed (fault.Case (case.H1 number day) nurse) = (1, lit< tt, refl)
status_listed (fault.Hard f d) = (1, lit< tt, refl)
status_listed (fault.Unfound f d) = (1, lit< tt, refl)
status_listed (fault.Unknown thing name) = (1, lit< tt, refl)
status_listed fault.Memory = (3, lit< tt, refl)
status_listed fault.Workspace = (3, lit< tt, refl)
status_listed fault.Output = (2, lit< tt, refl)
status_listed fault.Log = (2, lit< tt, refl)

-- ---- an input that was not read to its end

module _ {R : Type 0} (A : Type 0) (input : Input R) where
  pub unread : (f : TextFault) → IsReadFault f → input.after.failures ≡ counted input.before.failures (is_read_failure {A = A} (Err f))
      → (IsErrOf {T = A} (Err f) text.TooLong → IfSome (input.remaining input.before.inner) (λ given. most_bytes < length given)) → IsUnread input (fault.Text f)
  unread text.Memory is failures long = failures
  unread text.ReadFailed is failures long = failures
  unread text.TooLong is failures long = (failures, long refl)
  unread (text.Expected line what) is failures long = absurd is
  unread (text.NumberRange line) is failures long = absurd is
  unread (text.AfterEnd line) is failures long = absurd is

-- ---- the bytes are refused by every command

-- a run without a kick is a report of `polish`
abbrev pub kickless : (from : ℕ) → Meaning → Rows → Report
kickless from c r = polish_report (first_run c from r).roster (unkicked_text c from (penalty c r) r) c r

pub no_kick : (searches from : ℕ) (alone : Bool) (c : Meaning) (r : Rows) → IsPolishReport searches from alone c r (kickless from c r)
no_kick searches from alone c r = record {
  settled = (first_run c from r).is_settled;
  last = (first_run c from r).roster;
  log_text = unkicked_text c from (penalty c r) r;
  run = unkicked c from r (penalty c r) alone searches;
  is = refl;
}

-- a plan may leave the given roster
pub planned_self : (c : Meaning) (from : ℕ) (r : Rows) → IsPlanned c from r r
planned_self c from r = record { kept = λ e. refl; nearer = λ breaks rows. omega arith; stays = stays_self c from r }

-- the same for a report of `plan`, from the nearest roster
abbrev pub unplanned : (from : ℕ) → Rows → Meaning → Rows → Report
unplanned from nearest c r = plan_report from nearest (first_run c from nearest).roster (unkicked_text c from (missing c r) nearest) c r

pub no_plan : (searches from : ℕ) (alone : Bool) (c : Meaning) (r nearest : Rows) → (fits_case c r ≡ true → fits_case c nearest ≡ true) → IsPlanned c from r nearest → IsPlanReport searches from alone c r (unplanned from nearest c r)
no_plan searches from alone c r nearest fits planned = record {
  nearest = nearest;
  fits = fits;
  planned = planned;
  settled = (first_run c from nearest).is_settled;
  last = (first_run c from nearest).roster;
  log_text = unkicked_text c from (missing c r) nearest;
  run = unkicked c from nearest (missing c r) alone searches;
  is = refl;
}

-- no number of seconds, no end
pub none_of : {A B : Type 0} (f : A → B) (o : Option A) → o ≡ None → option_map f o ≡ None
none_of f o none = ap (λ x. option_map f x) none

-- each command has a report
some_report : (command : Command) (c : Meaning) (r : Rows) → (p : Report) × IsReportIn command c r p
some_report command.Show c r = (plain (weeks_text c r), refl)
some_report (command.Cost false) c r = (cost_report c r, refl)
some_report (command.Cost true) c r = (plain (json_cost c r), refl)
some_report (command.Sizes false) c r = (plain (sizes_text c), refl)
some_report (command.Sizes true) c r = (plain (json_sizes c), refl)
some_report (command.Best nurse from keep) c r = (best_report (string_bytes nurse) from c r, refl)
some_report (command.Improve rounds from keep) c r = (improve_report rounds from c r, refl)
some_report (command.Bound rounds nodes seconds from keep) c r = (let some = some_report_of_bounds (record { rounds = rounds; nodes = nodes }) from c r in (some.0, record { made = record { rounds = rounds; nodes = nodes }; rounds = omega arith; nodes = omega arith; all = λ e. refl; report = some.1 }))
some_report (command.Polish searches seconds seed from alone keep) c r = (kickless from c r, no_kick (searches_for c searches seconds) from alone c r)
some_report (command.Who day shift skill from json) c r = some_who (record { day = string_bytes day; shift = string_bytes shift; skill = option_map string_bytes skill }) from json c r
some_report (command.Plan searches seconds seed from keep) c r = (unplanned from r c r, no_plan (searches_for c searches seconds) from false c r r (λ e. e) (planned_self c from r))

pub refused_reading : {W L : Type 0} (output : Output W) (log : Output L) (command : Command) (source : Text) (f : Fault) → StopsReading source f → Untouched output → Untouched log
    → Answers output log command source (Some f)
refused_reading output log command source (fault.Text f) h o l = (h, o, l)
refused_reading output log command source (fault.Case f nurse) h o l =
    let r = roster_of source h.bundle in
    let some = some_report command (case_for command (meaning_of source h.bundle) r) r in
    record { bundle = h.bundle; spelled = h.spelled; report = some.0; is = some.1; ends = h.refused; left = o; logged = l }
refused_reading output log command source (fault.Hard f d) h o l = absurd h
refused_reading output log command source (fault.Unfound f d) h o l = absurd h
refused_reading output log command source (fault.Unknown thing name) h o l = absurd h
refused_reading output log command source fault.Memory h o l = absurd h
refused_reading output log command source fault.Workspace h o l = absurd h
refused_reading output log command source fault.Output h o l = absurd h
refused_reading output log command source fault.Log h o l = absurd h

-- an instance that was read, but there is no memory for the roster that a command keeps
pub refused_keeping : {W L : Type 0} (output : Output W) (log : Output L) (command : Command) (source : Text) (i : Instance) → SpellsInstance source i → (nurse : Bor Text) → nurse.now ≡ [] → Untouched output → Untouched log
    → Answers output log command source (Some (fault.Case case.Memory nurse))
refused_keeping output log command source i says nurse none o l =
    refused_reading output log command source (fault.Case case.Memory nurse) (record { bundle = says.bundle; spelled = says.spelled; refused = record { first = λ other. absurd (other refl); nurse_is = none } }) o l

-- ---- an instance, once it is read

module _ {W L : Type 0} (output : Output W) (log : Output L) (command : Command) (source : Text) (i : Instance) (says : SpellsInstance source i) where
  abbrev meant : Meaning
  meant = meaning_of source says.bundle

  abbrev rows : Rows
  rows = roster_of source says.bundle

  roster_meant : i.roster ≡ rows
  roster_meant = says.roster ∙ ap (λ m. rows_of source m says.bundle) says.case

  -- the roster of the bundle fits its case
  roster_fits : fits_case meant rows ≡ true
  roster_fits = subst (λ m. fits_case m rows ≡ true) says.case (subst (λ r. fits_case i.case r ≡ true) roster_meant i.fits)

  module _ (p : Report) (is : IsAnswer command source says.bundle p) where
    as_taken : (outcome : CommandEnd) → IsOutcomeOf p (case_for command meant rows) outcome → Leaves output p.output outcome → LeavesLog log p.log outcome → Answers output log command source outcome
    as_taken None h o l = record { bundle = says.bundle; spelled = says.spelled; report = p; is = is; ends = record { taken = says.taken; fits = roster_fits; ends = h }; left = o; logged = l }
    as_taken (Some (fault.Text f)) h o l = absurd h
    as_taken (Some (fault.Case f nurse)) h o l = absurd h
    as_taken (Some (fault.Hard f d)) h o l = record { bundle = says.bundle; spelled = says.spelled; report = p; is = is; ends = record { taken = says.taken; fits = roster_fits; ends = h }; left = o; logged = l }
    as_taken (Some (fault.Unfound f d)) h o l = record { bundle = says.bundle; spelled = says.spelled; report = p; is = is; ends = record { taken = says.taken; fits = roster_fits; ends = h }; left = o; logged = l }
    as_taken (Some (fault.Unknown thing name)) h o l = record { bundle = says.bundle; spelled = says.spelled; report = p; is = is; ends = record { taken = says.taken; fits = roster_fits; ends = h }; left = o; logged = l }
    as_taken (Some fault.Memory) h o l = record { bundle = says.bundle; spelled = says.spelled; report = p; is = is; ends = record { taken = says.taken; fits = roster_fits; ends = h }; left = o; logged = l }
    as_taken (Some fault.Workspace) h o l = record { bundle = says.bundle; spelled = says.spelled; report = p; is = is; ends = record { taken = says.taken; fits = roster_fits; ends = h }; left = o; logged = l }
    as_taken (Some fault.Output) h o l = record { bundle = says.bundle; spelled = says.spelled; report = p; is = is; ends = record { taken = says.taken; fits = roster_fits; ends = h }; left = o; logged = l }
    as_taken (Some fault.Log) h o l = record { bundle = says.bundle; spelled = says.spelled; report = p; is = is; ends = record { taken = says.taken; fits = roster_fits; ends = h }; left = o; logged = l }

  -- a command that reports so on the instance that is kept answers so
  module _ (kept : Instance) (at : IsKeptAt i (keep_of command) kept) where
    case_meant : kept.case ≡ case_for command meant rows
    case_meant = at.case ∙ (λ j. keeping (says.case j) (roster_meant j) (keep_of command))

    rows_meant : kept.roster ≡ rows
    rows_meant = at.roster ∙ roster_meant

    pub answers : (outcome : CommandEnd) → Reports output log (IsReportIn command kept.case kept.roster) kept.case outcome → Answers output log command source outcome
    answers outcome h =
        let is = subst (λ m. IsReportIn command m rows h.report) case_meant (subst (λ r. IsReportIn command kept.case r h.report) rows_meant h.is) in
        let ends = subst (λ m. IsOutcomeOf h.report m outcome) case_meant h.ends.ends in
        as_taken h.report is outcome ends h.ends.left h.logged

    -- a command that shows rosters for the instance that is kept shows them for the bundle
    pub shows : {S : Type 0} (saw : S → Meaning → Rows → S → Type 0) (saver after : S) → Shows saw log.contents log.before kept.case kept.roster saver after → ShowsSpelled saw log.contents log.before command source saver after
    shows saw saver after h = inr (record {
      bundle = says.bundle;
      spelled = says.spelled;
      shows = subst (λ m. Shows saw log.contents log.before m rows saver after) case_meant (subst (λ r. Shows saw log.contents log.before kept.case r saver after) rows_meant h);
    })
