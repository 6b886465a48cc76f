use Rattle.std.proofs.Common.{◌≡◌, ◌∙◌, ap, subst, sym}
use Rattle.std.specs.Prelude.{IsOkAnd}
use Rattle.std.proofs.lemmas.Result.{IfOk-weaker}
use Rattle.clap.specs.Words.{app_of, with_rule}
use Rattle.roster_request.specs.CommandLine.{out_rule}
use Rattle.roster_request.proofs.program.with_out.Goals as goal

pub returns : goal.returns
returns c =
    let rule = out_rule in
    IfOk-weaker c.arg.result _ _
    (λ made h. subst (λ r. IsOkAnd r (λ before. app_of made ≡ with_rule (app_of before) rule)) (sym c.in_ok-command.was) (h.shape c.out_arg.ensures.local ∙ ap (with_rule _) c.out_arg.ensures.rule))
    c.arg.ensures
