use Rattle.std.proofs.lemmas.Result.{err_from_is_err_and}
use Rattle.roster_text.specs.Pieces.{piece_text}
use Rattle.roster_text.proofs.Texts.{BreaksIn-flat_map}
use Rattle.roster_text.proofs.pieces.send_pieces.Goals as goal

pub returns-in_err-sent-clause-err : goal.returns-in_err-sent-clause-err
returns-in_err-sent-clause-err g c =
    let p = err_from_is_err_and c.from_residual.result c.from_residual.ensures.1 in
    rw (p.1, p.2) (BreaksIn-flat_map _ _ _ _ _ _ piece_text _ _ _ _ c.loop-piece-test.true c.loop-piece.invariant c.in_err-sent.ensures.err)
