use Rattle.std.proofs.Common.{◌≡◌, ◌∙◌, [], ap, ap₂, refl, subst}
use Rattle.std.specs.Prelude.{IfErr, OnOk}
use Rattle.std.proofs.lemmas.Result.{err_from_is_err_and}
use Rattle.roster_text.specs.Io.{Stops, Writes}
use Rattle.roster_case.specs.Held.{HeldRoster}
use Rattle.roster_case.specs.Shown.{weeks_text}
use Rattle.roster_rules.specs.HardRules.{hard_faults}
use Rattle.roster_rules.specs.AllowedRows.{best_row}
use Rattle.roster_instance.specs.Meaning.{Meaning}
use Rattle.roster_rounds.specs.RunLogs.{Ran}
use Rattle.roster_answers.specs.Answer.{IsUnheld, Output, StopsOutput, improve_report, run_log}
use Rattle.roster_answers.proofs.AnswerLemmas.{unheld_ends, unheld_log, written_ends, written_log}
use Rattle.roster_answers.proofs.improve.report_improve.Goals as goal

pub returns-in_err-held-clause-ends : goal.returns-in_err-held-clause-ends
returns-in_err-held-clause-ends g c =
    let output : Output g.row.Out.Denot = record { contents = g.Out.Write.contents; before = c.args.output.now; after = c.args.output.now } in
    let f = c.in_err-held.field-0.0 in
    let unheld = subst (λ (m : Meaning). IsUnheld m (hard_faults m c.args.instance.roster) f) c.new-meter.ensures.same c.in_err-held.ensures.unheld in
    let p = err_from_is_err_and c.from_residual.result c.from_residual.ensures.1 in
    rw (p.1, p.2) (unheld_ends output (improve_report c.args.rounds c.args.from c.args.instance.case c.args.instance.roster) c.args.instance.case f refl refl refl unheld refl)

pub returns-in_err-held-clause-logged : goal.returns-in_err-held-clause-logged
returns-in_err-held-clause-logged g c =
    let log : Output g.row.Log.Denot = record { contents = g.Log.Write.contents; before = c.args.log.now; after = c.args.log.now } in
    let r = c.args.instance.roster in
    let f = c.in_err-held.field-0.0 in
    let p = err_from_is_err_and c.from_residual.result c.from_residual.ensures.1 in
    rw (p.1, p.2) (unheld_log log (improve_report c.args.rounds c.args.from c.args.instance.case r).log _ _ f c.in_err-held.ensures.unheld refl)

pub returns-in_default-clause-ends : goal.returns-in_default-clause-ends
returns-in_default-clause-ends g c =
    let kept = subst (λ (m : Meaning). hard_faults m c.args.instance.roster ≡ []) c.new-meter.ensures.same c.in_ok-held.ensures.kept in
    record { ends = (kept, refl, refl); left = refl }

pub returns-in_default-clause-logged : goal.returns-in_default-clause-logged
returns-in_default-clause-logged g c = refl

pub returns-in-Ok-improve-clause-ends : goal.returns-in-Ok-improve-clause-ends
returns-in-Ok-improve-clause-ends g c =
    let output : Output g.row.Out.Denot = record { contents = g.Out.Write.contents; before = c.args.output.now; after = c.show_weeks.new.output } in
    let of_case : Meaning → HeldRoster = λ m. record { case = m; roster = c.args.instance.roster } in
    let held = c.in_ok-held.ensures.held ∙ ap of_case c.new-meter.ensures.same in
    let kept = subst (λ (m : Meaning). hard_faults m c.args.instance.roster ≡ []) c.new-meter.ensures.same c.in_ok-held.ensures.kept in
    let ran = subst (λ (h : HeldRoster). Ran g.Log.Write.contents h.case (best_row h.case c.args.from) c.args.rounds h.roster c.improve.new.held.roster c.args.log.now c.improve.new.log c.in-Ok-improve.field-0) held c.in-Ok-improve.ensures.ok in
    let text_is = ap₂ weeks_text (c.case-in-Ok-improve.ensures ∙ c.improve.ensures.case ∙ ap (λ (h : HeldRoster). h.case) held) (c.roster.ensures.roster ∙ ran.roster_is) in
    let shown = c.show_weeks.result in
    let ok = subst (λ text. OnOk shown (Writes g.Out.Write.contents c.args.output.now c.show_weeks.new.output text)) text_is c.show_weeks.ensures.ok in
    let err = subst (λ text. IfErr shown (StopsOutput g.Out.Write.contents c.args.output.now c.show_weeks.new.output text)) text_is c.show_weeks.ensures.err in
    written_ends output (improve_report c.args.rounds c.args.from c.args.instance.case c.args.instance.roster) c.args.instance.case shown (record { kept = kept; found = refl; known = refl }) ok err

pub returns-in-Ok-improve-clause-logged : goal.returns-in-Ok-improve-clause-logged
returns-in-Ok-improve-clause-logged g c =
    let output : Output g.row.Out.Denot = record { contents = g.Out.Write.contents; before = c.args.output.now; after = c.show_weeks.new.output } in
    let log : Output g.row.Log.Denot = record { contents = g.Log.Write.contents; before = c.args.log.now; after = c.improve.new.log } in
    let of_case : Meaning → HeldRoster = λ m. record { case = m; roster = c.args.instance.roster } in
    let held = c.in_ok-held.ensures.held ∙ ap of_case c.new-meter.ensures.same in
    let writes = subst (λ (h : HeldRoster). Writes g.Log.Write.contents c.args.log.now c.improve.new.log (run_log h.case c.args.rounds c.args.from h.roster)) held c.in-Ok-improve.ensures.ok.writes in
    written_log output log (improve_report c.args.rounds c.args.from c.args.instance.case c.args.instance.roster).log _ c.show_weeks.result writes c.show_weeks.ensures.err

pub returns-clause-ends : goal.returns-clause-ends
returns-clause-ends g c =
    let kept = subst (λ (m : Meaning). hard_faults m c.args.instance.roster ≡ []) c.new-meter.ensures.same c.in_ok-held.ensures.kept in
    record { ends = (record { kept = kept; found = refl; known = refl }, refl); left = refl }

pub returns-clause-logged : goal.returns-clause-logged
returns-clause-logged g c =
    let of_case : Meaning → HeldRoster = λ m. record { case = m; roster = c.args.instance.roster } in
    let held = c.in_ok-held.ensures.held ∙ ap of_case c.new-meter.ensures.same in
    let broken = c.in-Err-LogFailed.ensures.err in
    subst (λ (h : HeldRoster). Stops g.Log.Write.contents c.args.log.now c.improve.new.log (run_log h.case c.args.rounds c.args.from h.roster)) held (record { sent = broken.sent; stops = broken.stops.stops })
