use Rattle.std.proofs.Common.{codes}
use Rattle.clap.specs.Words.{App, with_rule}
use Rattle.roster_request.specs.CommandLine.{files_rule, from_rule, keep_rule, out_rule, searching}
use Rattle.roster_request.proofs.CommandLineLemmas.{made_by}
use Rattle.roster_request.proofs.program.plan_command.Goals as goal

pub returns : goal.returns
returns c =
    let before = searching (codes "plan") in
    let with_out = made_by (λ (a : App). with_rule a out_rule) before c.searching_command-searching.result c.with_out.result c.searching_command-searching.ensures c.with_out.ensures in
    made_by (λ (a : App). with_rule (with_rule (with_rule a from_rule) keep_rule) files_rule) (with_rule before out_rule) c.with_out.result c.with_weeks.result with_out c.with_weeks.ensures
