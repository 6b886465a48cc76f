use Rattle.std.proofs.lemmas.Result.{IfOk-weaker}
use Rattle.roster_request.proofs.CommandLineLemmas.{adds_made, no_globals}
use Rattle.roster_request.proofs.program.with_command.Goals as goal

pub returns-in-Ok-Ok : goal.returns-in-Ok-Ok
returns-in-Ok-Ok c =
    adds_made c.args.program c.args.command c.subcommand.result _ _ c.in-Ok-Ok.is-0 c.in-Ok-Ok.is-1
    (IfOk-weaker c.subcommand.result _ _ (λ made h plain. h.shape (no_globals _ _ _ _ plain)) c.subcommand.ensures)
