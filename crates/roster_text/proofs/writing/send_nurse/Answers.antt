use Rattle.std.proofs.Common.{[], rules}
use Rattle.std.proofs.lemmas.Result.{err_from_is_err_and}
use Rattle.roster_bundle.specs.Canonical.{line_on, nurse_lines}
use Rattle.roster_text.proofs.Texts.{BreaksIn-range, Sends-range, Sends-range-nil}
use Rattle.roster_text.proofs.Lines.{line_on_works, line_on_free}
use Rattle.roster_text.proofs.writing.send_nurse.Goals as goal

pub loop-weekday-preserved-in_default : goal.loop-weekday-preserved-in_default
loop-weekday-preserved-in_default g c =
    let shown = g.S.SolutionView.shown c.args.view.now in
    Sends-range-nil _ _ _ _ _ [] (line_on shown c.args.nurse) c.loop-weekday.weekday c.loop-weekday.invariant (line_on_free _ _ _ c.in_default.ensures)

pub returns-in_err-sent-clause-err : goal.returns-in_err-sent-clause-err
unfolding nurse_lines
returns-in_err-sent-clause-err g c =
    let p = err_from_is_err_and c.from_residual.result c.from_residual.ensures.1 in
    let shown = g.S.SolutionView.shown c.args.view.now in
    let line = line_on_works shown c.args.nurse c.loop-weekday.weekday c.nurse.result.now _ c.in-Some.shift.now c.in-Some.skill.now c.in-Some.ensures c.nurse.ensures c.weekday_text-day.ensures in
    rw (p.1, p.2)
    (BreaksIn-range g.W.Write.contents c.args.out.now c.loop-weekday.out c.send_line.new.out c.args.sent c.loop-weekday.sent [] (line_on shown c.args.nurse) c.loop-weekday.weekday 7
    c.in_err-sent.field-0.0 c.loop-weekday-test.true c.loop-weekday.invariant (rw line c.in_err-sent.ensures.err))

pub loop-weekday-preserved : goal.loop-weekday-preserved
loop-weekday-preserved g c =
    let shown = g.S.SolutionView.shown c.args.view.now in
    let line = line_on_works shown c.args.nurse c.loop-weekday.weekday c.nurse.result.now _ c.in-Some.shift.now c.in-Some.skill.now c.in-Some.ensures c.nurse.ensures c.weekday_text-day.ensures in
    Sends-range _ _ _ _ _ _ _ [] (line_on shown c.args.nurse) c.loop-weekday.weekday c.loop-weekday.invariant (rw line c.in_ok-sent.ensures.ok)

pub returns-clause-ok : goal.returns-clause-ok
unfolding nurse_lines
returns-clause-ok g c = search rules
