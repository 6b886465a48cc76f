use Rattle.std.proofs.Common.{◌∙◌, ◌≤◌, ap, ap₂, refl, subst, sym}
use Rattle.std.specs.Prelude.{IfErr, OnOk}
use Rattle.std.proofs.lemmas.Result.{err_from_is_err_and}
use Rattle.roster_text.specs.Io.{Stops, Writes}
use Rattle.roster_case.specs.Held.{HeldRoster}
use Rattle.roster_case.specs.Shown.{weeks_text}
use Rattle.roster_rules.specs.HardRules.{hard_faults}
use Rattle.roster_rules.proofs.HardLemmas.{none_of-none}
use Rattle.roster_rules.specs.Penalties.{penalty}
use Rattle.roster_instance.specs.Meaning.{day_count}
use Rattle.roster_answers.specs.Answer.{Output, StopsOutput, best_report, with_best}
use Rattle.roster_answers.specs.Lines.{best_log}
use Rattle.roster_answers.proofs.AnswerLemmas.{OnOk-always, unheld_ends, unheld_log, written_ends, written_log}
use Rattle.roster_answers.proofs.BestLemmas.{known, numbered, searched_for, unknown}
use Rattle.roster_answers.proofs.best.report_best_row.Goals as goal

pub returns-in-Some-first_hard-clause-ends : goal.returns-in-Some-first_hard-clause-ends
returns-in-Some-first_hard-clause-ends g c = record { ends = (sym c.in-Some-first_hard.ensures, c.into_case.ensures); left = refl }

pub returns-in_default-clause-ends : goal.returns-in_default-clause-ends
returns-in_default-clause-ends g c =
    let kept = none_of-none (hard_faults c.args.instance.case c.args.instance.roster) (sym c.first_hard.ensures ∙ c.in_default-first_hard.is) in
    record { ends = (kept, unknown c.args.instance.case c.args.name.now (sym c.find_nurse.ensures.found ∙ c.in_default.is)); left = refl }

pub returns-in_err-held-clause-ends : goal.returns-in_err-held-clause-ends
returns-in_err-held-clause-ends g c =
    let output : Output g.row.Out.Denot = record { contents = g.Out.Write.contents; before = c.args.output.now; after = c.args.output.now } in
    let f = c.in_err-held.field-0.0 in
    let unheld = c.in_err-held.ensures.unheld in
    let p = err_from_is_err_and c.from_residual.result c.from_residual.ensures.1 in
    rw (p.1, p.2) (unheld_ends output (best_report c.args.name.now c.args.from c.args.instance.case c.args.instance.roster) c.args.instance.case f refl refl (known c.args.instance.case c.args.name.now c.in-Some.nurse c.in-Some.ensures.found) unheld refl)

pub returns-in_err-held-clause-logged : goal.returns-in_err-held-clause-logged
returns-in_err-held-clause-logged g c =
    let log : Output g.row.Log.Denot = record { contents = g.Log.Write.contents; before = c.args.log.now; after = c.args.log.now } in
    let p = err_from_is_err_and c.from_residual.result c.from_residual.ensures.1 in
    rw (p.1, p.2) (unheld_log log (best_report c.args.name.now c.args.from c.args.instance.case c.args.instance.roster).log _ _ c.in_err-held.field-0.0 c.in_err-held.ensures.unheld refl)

pub returns-in_default-for_case-clause-ends : goal.returns-in_default-for_case-clause-ends
returns-in_default-for_case-clause-ends g c =
    let kept = c.in_ok-held.ensures.kept in
    record { ends = (kept, known c.args.instance.case c.args.name.now c.in-Some.nurse c.in-Some.ensures.found, refl); left = refl }

pub returns-clause-ends : goal.returns-clause-ends
returns-clause-ends g c =
    let held = c.in_ok-held.ensures.held in
    let kept = c.in_ok-held.ensures.kept in
    record { ends = (record { kept = kept; found = refl; known = known c.args.instance.case c.args.name.now c.in-Some.nurse c.in-Some.ensures.found }, refl); left = refl }

pub returns-clause-logged : goal.returns-clause-logged
returns-clause-logged g c =
    let held = c.in_ok-held.ensures.held in
    let case = c.args.instance.case in
    let nurse = c.in-Some.nurse in
    let number = numbered case c.args.name.now nurse c.in-Some.ensures.found in
    subst (λ n. Stops g.Log.Write.contents c.args.log.now c.put_best_row.new.log (best_log case (penalty case c.args.instance.roster) c.args.name.now (penalty case (with_best case c.args.from c.args.instance.roster n)))) number
    (subst (λ (h : HeldRoster). Stops g.Log.Write.contents c.args.log.now c.put_best_row.new.log (best_log h.case (penalty h.case h.roster) c.args.name.now (penalty h.case (with_best h.case c.args.from h.roster nurse)))) held c.in-Err.ensures.err)

pub returns-in-Ok-put_best_row-clause-ends : goal.returns-in-Ok-put_best_row-clause-ends
returns-in-Ok-put_best_row-clause-ends g c =
    let output : Output g.row.Out.Denot = record { contents = g.Out.Write.contents; before = c.args.output.now; after = c.show_weeks.new.output } in
    let held = c.in_ok-held.ensures.held in
    let kept = c.in_ok-held.ensures.kept in
    let case = c.args.instance.case in
    let nurse = c.in-Some.nurse in
    let number = numbered case c.args.name.now nurse c.in-Some.ensures.found in
    let better : HeldRoster → HeldRoster = λ h. record { case = h.case; roster = with_best h.case c.args.from h.roster nurse } in
    let put = c.in-Ok-put_best_row.ensures.put ∙ ap better held in
    let text_is = ap₂ weeks_text (c.case-in-Ok-put_best_row.ensures ∙ ap (λ (h : HeldRoster). h.case) put) (c.roster.ensures.roster ∙ ap (λ (h : HeldRoster). h.roster) put ∙ ap (with_best case c.args.from c.args.instance.roster) number) in
    let shown = c.show_weeks.result in
    let ok = subst (λ text. OnOk shown (Writes g.Out.Write.contents c.args.output.now c.show_weeks.new.output text)) text_is c.show_weeks.ensures.ok in
    let err = subst (λ text. IfErr shown (StopsOutput g.Out.Write.contents c.args.output.now c.show_weeks.new.output text)) text_is c.show_weeks.ensures.err in
    written_ends output (best_report c.args.name.now c.args.from c.args.instance.case c.args.instance.roster) c.args.instance.case shown (record { kept = kept; found = refl; known = known case c.args.name.now nurse c.in-Some.ensures.found }) ok err

pub returns-in-Ok-put_best_row-clause-logged : goal.returns-in-Ok-put_best_row-clause-logged
returns-in-Ok-put_best_row-clause-logged g c =
    let output : Output g.row.Out.Denot = record { contents = g.Out.Write.contents; before = c.args.output.now; after = c.show_weeks.new.output } in
    let log : Output g.row.Log.Denot = record { contents = g.Log.Write.contents; before = c.args.log.now; after = c.put_best_row.new.log } in
    let held = c.in_ok-held.ensures.held in
    let case = c.args.instance.case in
    let nurse = c.in-Some.nurse in
    let number = numbered case c.args.name.now nurse c.in-Some.ensures.found in
    let writes = subst (λ n. Writes g.Log.Write.contents c.args.log.now c.put_best_row.new.log (best_log case (penalty case c.args.instance.roster) c.args.name.now (penalty case (with_best case c.args.from c.args.instance.roster n)))) number
    (subst (λ (h : HeldRoster). Writes g.Log.Write.contents c.args.log.now c.put_best_row.new.log (best_log h.case (penalty h.case h.roster) c.args.name.now (penalty h.case (with_best h.case c.args.from h.roster nurse)))) held c.in-Ok-put_best_row.ensures.ok) in
    written_log output log (best_report c.args.name.now c.args.from c.args.instance.case c.args.instance.roster).log _ c.show_weeks.result writes c.show_weeks.ensures.err

-- ---- one search

pub returns-clause-counted : goal.returns-clause-counted
returns-clause-counted g c =
    searched_for c.args.instance.case c.args.instance.roster c.args.name.now c.in-Some.nurse c.in-Some.ensures.found c.in_ok-held.held c.in_ok-held.ensures.held c.put_best_row.new.meter c.put_best_row.ensures.counted

pub returns-in-Ok-put_best_row-clause-counted : goal.returns-in-Ok-put_best_row-clause-counted
returns-in-Ok-put_best_row-clause-counted g c =
    searched_for c.args.instance.case c.args.instance.roster c.args.name.now c.in-Some.nurse c.in-Some.ensures.found c.in_ok-held.held c.in_ok-held.ensures.held c.put_best_row.new.meter c.put_best_row.ensures.counted

pub returns-in-Ok-put_best_row-clause-each_day : goal.returns-in-Ok-put_best_row-clause-each_day
returns-in-Ok-put_best_row-clause-each_day g c =
    let held = c.in_ok-held.ensures.held in
    let made = subst (λ (h : HeldRoster). day_count h.case ≤ c.put_best_row.new.meter) held c.in-Ok-put_best_row.ensures.each_day in
    OnOk-always c.show_weeks.result _ made
