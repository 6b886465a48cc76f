use Rattle.std.proofs.Common.{◌∙◌, ap, codes}
use Rattle.std.proofs.lemmas.Result.{IfOk-weaker}
use Rattle.clap.specs.Words.{App, new_app, with_rule}
use Rattle.roster_request.specs.CommandLine.{files_rule, from_rule, keep_rule, nurse_rule, out_rule}
use Rattle.roster_request.proofs.CommandLineLemmas.{made_by}
use Rattle.roster_request.proofs.program.best_command.Goals as goal

pub returns : goal.returns
returns c =
    let with_nurse =
    IfOk-weaker c.arg-with_nurse.result _ _
    (λ made h. h.shape c.given_arg-nurse.ensures.local ∙ ap (with_rule _) c.given_arg-nurse.ensures.rule ∙ ap (λ (a : App). with_rule a nurse_rule) c.command.ensures)
    c.arg-with_nurse.ensures in
    let with_out = made_by (λ (a : App). with_rule a out_rule) (with_rule (new_app (codes "best")) nurse_rule) c.arg-with_nurse.result c.with_out.result with_nurse c.with_out.ensures in
    made_by (λ (a : App). with_rule (with_rule (with_rule a from_rule) keep_rule) files_rule) (with_rule (with_rule (new_app (codes "best")) nurse_rule) out_rule) c.with_out.result c.with_weeks.result with_out c.with_weeks.ensures
