use Rattle.std.proofs.Common.{◌≡◌, ◌∙◌, [], ap, arith, inl, inr, refl, subst}
use Rattle.std.specs.Prelude.{IfErr, OnOk, min}
use Rattle.std.proofs.lemmas.Result.{err_from_is_err_and}
use Rattle.roster_text.specs.Io.{Writes}
use Rattle.roster_case.specs.Held.{HeldRoster}
use Rattle.roster_case.specs.Shown.{weeks_text}
use Rattle.roster_rules.specs.HardRules.{hard_faults}
use Rattle.roster_rules.specs.Penalties.{penalty}
use Rattle.roster_instance.specs.Meaning.{Meaning}
use Rattle.roster_polish.specs.Polished.{PolishLogStops, Polishes, most_searches}
use Rattle.roster_polish.specs.declared.run.Course.{Course}
use Rattle.roster_answers.specs.Answer.{IsUnheld, Output, StopsOutput}
use Rattle.roster_polish.specs.Shown.{SawOnlyReported}
use Rattle.roster_cli.specs.Saving.{Shows}
use Rattle.roster_cli.proofs.AnswerLemmas.{planned_self}
use Rattle.roster_cli.proofs.PolishLemmas.{polish_ends, polish_roomless, polish_stops, polish_unheld}
use Rattle.roster_cli.proofs.polish.report_polish.Given as given
use Rattle.roster_cli.proofs.polish.report_polish.Goals as goal
use Rattle.roster_cli.proofs.polish.report_polish.Goals.{After-polish_found}

pub returns-in_err-held-clause-reports : goal.returns-in_err-held-clause-reports
returns-in_err-held-clause-reports g c =
    let output : Output g.row.Out.Denot = record { contents = g.Out.Write.contents; before = c.args.output.now; after = c.args.output.now } in
    let log : Output g.row.Log.Denot = record { contents = g.Log.Write.contents; before = c.args.log.now; after = c.args.log.now } in
    let p = err_from_is_err_and c.from_residual.result c.from_residual.ensures.1 in
    rw (p.1, p.2) (polish_unheld c.args.course.now.searches c.args.course.now.from c.args.course.now.kicks_alone c.args.instance.case c.args.instance.roster output log c.in_err-held.field-0.0 (subst (λ (m : Meaning). IsUnheld m (hard_faults m c.args.instance.roster) c.in_err-held.field-0.0) c.new-meter.ensures.same c.in_err-held.ensures.unheld) refl refl)

pub returns-in_default-clause-reports : goal.returns-in_default-clause-reports
returns-in_default-clause-reports g c =
    let output : Output g.row.Out.Denot = record { contents = g.Out.Write.contents; before = c.args.output.now; after = c.args.output.now } in
    let log : Output g.row.Log.Denot = record { contents = g.Log.Write.contents; before = c.args.log.now; after = c.args.log.now } in
    polish_roomless c.args.course.now.searches c.args.course.now.from c.args.course.now.kicks_alone c.args.instance.case c.args.instance.roster output log (subst (λ (m : Meaning). hard_faults m c.args.instance.roster ≡ []) c.new-meter.ensures.same c.in_ok-held.ensures.kept) refl refl

pub returns-in-Ok-polish_found-clause-reports : goal.returns-in-Ok-polish_found-clause-reports
returns-in-Ok-polish_found-clause-reports g c =
    let output : Output g.row.Out.Denot = record { contents = g.Out.Write.contents; before = c.args.output.now; after = c.show_weeks.new.output } in
    let log : Output g.row.Log.Denot = record { contents = g.Log.Write.contents; before = c.args.log.now; after = c.polish_found.new.log } in
    let of_case : Meaning → HeldRoster = λ m. record { case = m; roster = c.args.instance.roster } in
    let held = c.in_ok-held.ensures.held ∙ ap of_case c.new-meter.ensures.same in
    let kept = subst (λ (m : Meaning). hard_faults m c.args.instance.roster ≡ []) c.new-meter.ensures.same c.in_ok-held.ensures.kept in
    let last = c.polish_found.new.held.roster in
    let polished = c.in-Ok-polish_found.field-0 in
    let from_total = subst (λ n. Polishes g.Log.Write.contents c.in_ok-held.held.case c.within_capacity-course.result.from c.in_ok-held.held.roster n c.within_capacity-course.result.searches c.within_capacity-course.result.kicks_alone last c.args.log.now c.polish_found.new.log polished) c.total-aids.ensures.total c.in-Ok-polish_found.ensures.ok in
    let made = subst (λ (k : Course g.row.K.Denot). Polishes g.Log.Write.contents c.in_ok-held.held.case k.from c.in_ok-held.held.roster (penalty c.in_ok-held.held.case c.in_ok-held.held.roster) k.searches k.kicks_alone last c.args.log.now c.polish_found.new.log polished) c.within_capacity-course.ensures from_total in
    let polishes = subst (λ (h : HeldRoster). Polishes g.Log.Write.contents h.case c.args.course.now.from h.roster (penalty h.case h.roster) (min c.args.course.now.searches most_searches) c.args.course.now.kicks_alone last c.args.log.now c.polish_found.new.log polished) held made in
    let case_is = c.case-in-Ok-polish_found.ensures ∙ c.polish_found.ensures.case ∙ ap (λ (h : HeldRoster). h.case) held in
    let shown = c.show_weeks.result in
    let writes = subst (λ (m : Meaning). OnOk shown (Writes g.Out.Write.contents c.args.output.now c.show_weeks.new.output (weeks_text m last))) case_is (subst (λ r. OnOk shown (Writes g.Out.Write.contents c.args.output.now c.show_weeks.new.output (weeks_text c.case-in-Ok-polish_found.result.now r))) c.roster.ensures.roster c.show_weeks.ensures.ok) in
    let stops = subst (λ (m : Meaning). IfErr shown (StopsOutput g.Out.Write.contents c.args.output.now c.show_weeks.new.output (weeks_text m last))) case_is (subst (λ r. IfErr shown (StopsOutput g.Out.Write.contents c.args.output.now c.show_weeks.new.output (weeks_text c.case-in-Ok-polish_found.result.now r))) c.roster.ensures.roster c.show_weeks.ensures.err) in
    polish_ends c.args.course.now.searches c.args.course.now.from c.args.course.now.kicks_alone c.args.instance.case c.args.instance.roster output log (min c.args.course.now.searches most_searches) (omega arith) last polished shown kept polishes writes stops

pub returns-clause-reports : goal.returns-clause-reports
returns-clause-reports g c =
    let output : Output g.row.Out.Denot = record { contents = g.Out.Write.contents; before = c.args.output.now; after = c.args.output.now } in
    let log : Output g.row.Log.Denot = record { contents = g.Log.Write.contents; before = c.args.log.now; after = c.polish_found.new.log } in
    let of_case : Meaning → HeldRoster = λ m. record { case = m; roster = c.args.instance.roster } in
    let held = c.in_ok-held.ensures.held ∙ ap of_case c.new-meter.ensures.same in
    let kept = subst (λ (m : Meaning). hard_faults m c.args.instance.roster ≡ []) c.new-meter.ensures.same c.in_ok-held.ensures.kept in
    let f = c.in-Err-LogFailed.field-0 in
    let from_total = subst (λ n. PolishLogStops g.Log.Write.contents c.in_ok-held.held.case c.within_capacity-course.result.from c.in_ok-held.held.roster n c.within_capacity-course.result.searches c.within_capacity-course.result.kicks_alone c.polish_found.new.held.roster c.args.log.now c.polish_found.new.log f) c.total-aids.ensures.total c.in-Err-LogFailed.ensures.err in
    let stops_then = subst (λ (k : Course g.row.K.Denot). PolishLogStops g.Log.Write.contents c.in_ok-held.held.case k.from c.in_ok-held.held.roster (penalty c.in_ok-held.held.case c.in_ok-held.held.roster) k.searches k.kicks_alone c.polish_found.new.held.roster c.args.log.now c.polish_found.new.log f) c.within_capacity-course.ensures from_total in
    let stops = subst (λ (h : HeldRoster). PolishLogStops g.Log.Write.contents h.case c.args.course.now.from h.roster (penalty h.case h.roster) (min c.args.course.now.searches most_searches) c.args.course.now.kicks_alone c.polish_found.new.held.roster c.args.log.now c.polish_found.new.log f) held stops_then in
    polish_stops c.args.course.now.searches c.args.course.now.from c.args.course.now.kicks_alone c.args.instance.case c.args.instance.roster output log (min c.args.course.now.searches most_searches) (omega arith) c.polish_found.new.held.roster f kept stops refl

-- ---- what is shown

pub returns-in_err-held-clause-saved : goal.returns-in_err-held-clause-saved
returns-in_err-held-clause-saved g c = inl refl

pub returns-in_default-clause-saved : goal.returns-in_default-clause-saved
returns-in_default-clause-saved g c = inl refl

shown : (g : given.Over) (c : After-polish_found g) → Shows g.S.Saves.Saw g.Log.Write.contents c.args.log.now c.args.instance.case c.args.instance.roster c.args.aids.now.reporting.saver c.polish_found.new.reporting.saver
shown g c =
    let of_case : Meaning → HeldRoster = λ m. record { case = m; roster = c.args.instance.roster } in
    let held = c.in_ok-held.ensures.held ∙ ap of_case c.new-meter.ensures.same in
    let saver = c.args.aids.now.reporting.saver in
    let after = c.polish_found.new.reporting.saver in
    inr (
      c.within_capacity-course.result.from,
      record {
        begun = c.args.instance.roster;
        planned = planned_self c.args.instance.case c.within_capacity-course.result.from c.args.instance.roster;
        start = c.total-aids.result;
        shown = subst (λ (h : HeldRoster). SawOnlyReported g.Log.Write.contents g.S.Saves.Saw h.case c.within_capacity-course.result.from h.roster c.total-aids.result c.args.log.now saver after) held c.polish_found.ensures.saved;
      },
    )

pub returns-in-Ok-polish_found-clause-saved : goal.returns-in-Ok-polish_found-clause-saved
returns-in-Ok-polish_found-clause-saved g c = shown g (goal.at.returns-in-Ok-polish_found-clause-saved g c).After-polish_found

pub returns-clause-saved : goal.returns-clause-saved
returns-clause-saved g c = shown g (goal.at.returns-clause-saved g c).After-polish_found
