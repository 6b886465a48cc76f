use Rattle.std.proofs.Common.{◌≡◌, arith}
use Rattle.std.proofs.lemmas.Result.{err_from_is_err_and}
use Rattle.roster_bundle.specs.Canonical.{heading, nurse_lines}
use Rattle.roster_text.proofs.Texts.{BreaksIn-append, BreaksIn-range, Sends-range}
use Rattle.roster_text.proofs.Lines.{canonical_is}
use Rattle.roster_text.proofs.writing.send_solution.Goals as goal

pub returns-in_err-sent-clause-err : goal.returns-in_err-sent-clause-err
returns-in_err-sent-clause-err g c =
    let p = err_from_is_err_and c.from_residual.result c.from_residual.ensures.1 in
    rw (p.1, p.2, canonical_is) (BreaksIn-append _ _ _ _ _ _ _ c.in_err-sent.ensures.err)

pub returns-in_err-sent-2-clause-err : goal.returns-in_err-sent-2-clause-err
returns-in_err-sent-2-clause-err g c =
    let p = err_from_is_err_and c.from_residual-in_err-sent-2.result c.from_residual-in_err-sent-2.ensures.1 in
    let shown = g.S.SolutionView.shown c.args.view.now in
    rw (p.1, p.2, canonical_is) (BreaksIn-range _ _ _ _ _ _ (heading shown) (nurse_lines shown) c.loop-nurse.nurse shown.nurses _ (omega arith) c.loop-nurse.invariant c.in_err-sent-2.ensures.err)

pub loop-nurse-preserved : goal.loop-nurse-preserved
loop-nurse-preserved g c =
    let shown = g.S.SolutionView.shown c.args.view.now in
    Sends-range _ _ _ _ _ _ _ (heading shown) (nurse_lines shown) c.loop-nurse.nurse c.loop-nurse.invariant c.in_ok-sent-2.ensures.ok

pub returns-clause-ok : goal.returns-clause-ok
returns-clause-ok g c =
    let shown = g.S.SolutionView.shown c.args.view.now in
    let all : c.loop-nurse.nurse ≡ shown.nurses = omega arith in
    rw canonical_is (rw all at c.loop-nurse.invariant)
