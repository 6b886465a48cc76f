use Rattle.std.proofs.lemmas.Result.{err_from_is_err_and}
use Rattle.roster_text.proofs.Texts.{StopsIn-from_breaks_in}
use Rattle.roster_text.proofs.writing.write_solution.Goals as goal

pub returns-in_err-send_solution-clause-err : goal.returns-in_err-send_solution-clause-err
returns-in_err-send_solution-clause-err g c =
    let p = err_from_is_err_and c.from_residual.result c.from_residual.ensures.1 in
    rw (p.1, p.2) (StopsIn-from_breaks_in _ _ _ _ _ c.in_err-send_solution.ensures.err)
