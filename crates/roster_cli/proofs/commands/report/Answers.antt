use Rattle.std.proofs.Common.{◌≡◌, ◌∙◌, ap, false, inl, refl, rules, subst, sym, true}
use Rattle.roster_instance.specs.Meaning.{Meaning}
use Rattle.roster_case.specs.Shown.{weeks_text}
use Rattle.roster_answers.specs.Answer.{IsBoundWithin, IsWhoReport, Output, Reports, best_report, improve_report, names_in, outcome_of, plain}
use Rattle.roster_cli.specs.Answer.{IsPlanReport, IsPolishReport, IsReportIn}
use Rattle.roster_cli.specs.Saving.{Shows}
use Rattle.roster_reports.specs.Lines.{sizes_text}
use Rattle.roster_json.specs.Reports.{json_cost, json_sizes}
use Rattle.roster_answers.proofs.AnswerLemmas.{plain_ends, silent_log}
use Rattle.roster_request.specs.declared.request.Command.TheVariants as command
use Rattle.roster_cli.proofs.AnswerLemmas.{none_of}
use Rattle.roster_cli.proofs.commands.report.Goals as goal

pub returns-in-Show-clause-reports : goal.returns-in-Show-clause-reports
returns-in-Show-clause-reports g c =
    let output : Output g.row.Out.Denot = record { contents = g.Out.Write.contents; before = c.args.output.now; after = c.show_weeks.new.output } in
    let log : Output g.row.Log.Denot = record { contents = g.Log.Write.contents; before = c.args.log.now; after = c.args.log.now } in
    let p = plain (weeks_text c.args.instance.case c.args.instance.roster) in
    let e = plain_ends output (weeks_text c.args.instance.case c.args.instance.roster) c.args.instance.case c.show_weeks.result c.show_weeks.ensures.ok c.show_weeks.ensures.err in
    record { report = p; is = subst (λ x. IsReportIn x c.args.instance.case c.args.instance.roster p) (sym c.in-Show.is) refl; ends = e; logged = silent_log output log p c.args.instance.case (outcome_of c.show_weeks.result) refl e refl }

pub returns-in-Cost-true-clause-reports : goal.returns-in-Cost-true-clause-reports
returns-in-Cost-true-clause-reports g c =
    let output : Output g.row.Out.Denot = record { contents = g.Out.Write.contents; before = c.args.output.now; after = c.report_json_cost.new.output } in
    let log : Output g.row.Log.Denot = record { contents = g.Log.Write.contents; before = c.args.log.now; after = c.args.log.now } in
    let p = plain (json_cost c.args.instance.case c.args.instance.roster) in
    let e = plain_ends output (json_cost c.args.instance.case c.args.instance.roster) c.args.instance.case c.report_json_cost.result c.report_json_cost.ensures.ok c.report_json_cost.ensures.err in
    let asked : c.in-Cost-true.json ≡ true = search rules in
    record { report = p; is = subst (λ x. IsReportIn x c.args.instance.case c.args.instance.roster p) (sym c.in-Cost-true.is) (subst (λ b. IsReportIn (command.Cost b) c.args.instance.case c.args.instance.roster p) (sym asked) refl); ends = e; logged = silent_log output log p c.args.instance.case (outcome_of c.report_json_cost.result) refl e refl }

pub returns-in-Sizes-false-clause-reports : goal.returns-in-Sizes-false-clause-reports
returns-in-Sizes-false-clause-reports g c =
    let output : Output g.row.Out.Denot = record { contents = g.Out.Write.contents; before = c.args.output.now; after = c.report_sizes.new.output } in
    let log : Output g.row.Log.Denot = record { contents = g.Log.Write.contents; before = c.args.log.now; after = c.args.log.now } in
    let p = plain (sizes_text c.args.instance.case) in
    let e = plain_ends output (sizes_text c.args.instance.case) c.args.instance.case c.report_sizes.result c.report_sizes.ensures.ok c.report_sizes.ensures.err in
    let asked : c.in-Sizes-false.json ≡ false = search rules in
    record { report = p; is = subst (λ x. IsReportIn x c.args.instance.case c.args.instance.roster p) (sym c.in-Sizes-false.is) (subst (λ b. IsReportIn (command.Sizes b) c.args.instance.case c.args.instance.roster p) (sym asked) refl); ends = e; logged = silent_log output log p c.args.instance.case (outcome_of c.report_sizes.result) refl e refl }

pub returns-in-Sizes-true-clause-reports : goal.returns-in-Sizes-true-clause-reports
returns-in-Sizes-true-clause-reports g c =
    let output : Output g.row.Out.Denot = record { contents = g.Out.Write.contents; before = c.args.output.now; after = c.report_json_sizes.new.output } in
    let log : Output g.row.Log.Denot = record { contents = g.Log.Write.contents; before = c.args.log.now; after = c.args.log.now } in
    let p = plain (json_sizes c.args.instance.case) in
    let e = plain_ends output (json_sizes c.args.instance.case) c.args.instance.case c.report_json_sizes.result c.report_json_sizes.ensures.ok c.report_json_sizes.ensures.err in
    let asked : c.in-Sizes-true.json ≡ true = search rules in
    record { report = p; is = subst (λ x. IsReportIn x c.args.instance.case c.args.instance.roster p) (sym c.in-Sizes-true.is) (subst (λ b. IsReportIn (command.Sizes b) c.args.instance.case c.args.instance.roster p) (sym asked) refl); ends = e; logged = silent_log output log p c.args.instance.case (outcome_of c.report_json_sizes.result) refl e refl }

pub returns-in-Best-clause-reports : goal.returns-in-Best-clause-reports
returns-in-Best-clause-reports g c =
    let p = best_report c.as_bytes.result.now c.in-Best.from c.args.instance.case c.args.instance.roster in
    record {
      report = p;
      is = subst (λ x. IsReportIn x c.args.instance.case c.args.instance.roster p) (sym c.in-Best.is) (ap (λ name. best_report name c.in-Best.from c.args.instance.case c.args.instance.roster) c.as_bytes.ensures.value);
      ends = c.report_best.ensures.ends;
      logged = c.report_best.ensures.logged;
    }

pub returns-in-Improve-clause-reports : goal.returns-in-Improve-clause-reports
returns-in-Improve-clause-reports g c =
    let p = improve_report c.in-Improve.rounds c.in-Improve.from c.args.instance.case c.args.instance.roster in
    record {
      report = p;
      is = subst (λ x. IsReportIn x c.args.instance.case c.args.instance.roster p) (sym c.in-Improve.is) refl;
      ends = c.report_improve.ensures.ends;
      logged = c.report_improve.ensures.logged;
    }

pub returns-in-Bound-clause-reports : goal.returns-in-Bound-clause-reports
returns-in-Bound-clause-reports g c =
    let made = c.report_bound.ensures in
    let is = made.is in
    let within : IsBoundWithin (record { rounds = c.in-Bound.rounds; nodes = c.in-Bound.nodes }) c.in-Bound.seconds c.in-Bound.from c.args.instance.case c.args.instance.roster made.report =
    record { made = is.made; rounds = is.rounds; nodes = is.nodes; all = λ none. is.all (c.start.ensures.ends ∙ none_of _ _ none); report = is.report } in
    record { report = made.report; is = subst (λ x. IsReportIn x c.args.instance.case c.args.instance.roster made.report) (sym c.in-Bound.is) within; ends = made.ends; logged = made.logged }

pub returns-in-Polish-clause-reports : goal.returns-in-Polish-clause-reports
returns-in-Polish-clause-reports g c =
    let made = c.report_polish.ensures.reports in
    record { report = made.report; is = subst (λ x. IsReportIn x c.args.instance.case c.args.instance.roster made.report) (sym c.in-Polish.is) (subst (λ n. IsPolishReport n c.in-Polish.from c.in-Polish.kicks_alone c.args.instance.case c.args.instance.roster made.report) c.searches_for.ensures made.is); ends = made.ends; logged = made.logged }

pub returns-in-Plan-clause-reports : goal.returns-in-Plan-clause-reports
returns-in-Plan-clause-reports g c =
    let output : Output g.row.Out.Denot = record { contents = g.Out.Write.contents; before = c.args.output.now; after = c.report_plan.new.output } in
    let log : Output g.row.Log.Denot = record { contents = g.Log.Write.contents; before = c.args.log.now; after = c.report_plan.new.log } in
    let asked = c.searches_for-in-Plan.result in
    let made = subst (λ (m : Meaning). Reports output log (IsPlanReport asked c.in-Plan.from false m c.args.instance.roster) m (outcome_of c.report_plan.result)) c.new-meter.ensures.same c.report_plan.ensures.reports in
    record { report = made.report; is = subst (λ x. IsReportIn x c.args.instance.case c.args.instance.roster made.report) (sym c.in-Plan.is) (subst (λ n. IsPlanReport n c.in-Plan.from false c.args.instance.case c.args.instance.roster made.report) c.searches_for-in-Plan.ensures made.is); ends = made.ends; logged = made.logged }

pub returns-clause-reports : goal.returns-clause-reports
returns-clause-reports g c =
    let output : Output g.row.Out.Denot = record { contents = g.Out.Write.contents; before = c.args.output.now; after = c.report_who.new.output } in
    let log : Output g.row.Log.Denot = record { contents = g.Log.Write.contents; before = c.args.log.now; after = c.args.log.now } in
    let made = c.report_who.ensures in
    let from_week = subst (λ w. IsWhoReport (names_in c.asking_of-asking.result) w c.in-Who.json c.args.instance.case c.args.instance.roster made.report) c.asking_of-asking.ensures.from made.is in
    let named = subst (λ names. IsWhoReport names c.in-Who.from c.in-Who.json c.args.instance.case c.args.instance.roster made.report) c.asking_of-asking.ensures.names from_week in
    record {
      report = made.report;
      is = subst (λ x. IsReportIn x c.args.instance.case c.args.instance.roster made.report) (sym c.in-Who.is) named;
      ends = made.ends;
      logged = silent_log output log made.report c.args.instance.case (outcome_of c.report_who.result) (ap (λ p. p.log) made.is.is) made.ends refl;
    }

-- ---- what is shown

pub returns-in-Show-clause-saved : goal.returns-in-Show-clause-saved
returns-in-Show-clause-saved g c = inl refl

pub returns-in-Cost-false-clause-saved : goal.returns-in-Cost-false-clause-saved
returns-in-Cost-false-clause-saved g c = inl refl

pub returns-in-Cost-true-clause-saved : goal.returns-in-Cost-true-clause-saved
returns-in-Cost-true-clause-saved g c = inl refl

pub returns-in-Sizes-false-clause-saved : goal.returns-in-Sizes-false-clause-saved
returns-in-Sizes-false-clause-saved g c = inl refl

pub returns-in-Sizes-true-clause-saved : goal.returns-in-Sizes-true-clause-saved
returns-in-Sizes-true-clause-saved g c = inl refl

pub returns-in-Best-clause-saved : goal.returns-in-Best-clause-saved
returns-in-Best-clause-saved g c = inl refl

pub returns-in-Improve-clause-saved : goal.returns-in-Improve-clause-saved
returns-in-Improve-clause-saved g c = inl refl

pub returns-in-Bound-clause-saved : goal.returns-in-Bound-clause-saved
returns-in-Bound-clause-saved g c = inl refl

pub returns-clause-saved : goal.returns-clause-saved
returns-clause-saved g c = inl refl

pub returns-in-Polish-clause-saved : goal.returns-in-Polish-clause-saved
returns-in-Polish-clause-saved g c = c.report_polish.ensures.saved

pub returns-in-Plan-clause-saved : goal.returns-in-Plan-clause-saved
returns-in-Plan-clause-saved g c = subst (λ (m : Meaning). Shows g.S.Saves.Saw g.Log.Write.contents c.args.log.now m c.args.instance.roster c.args.aids.now.reporting.saver c.report_plan.new.aids.reporting.saver) c.new-meter.ensures.same c.report_plan.ensures.saved
