use Rattle.std.proofs.Common.{Ok, codes}
use Rattle.clap.specs.Words.{App, new_app, with_rule}
use Rattle.roster_request.specs.CommandLine.{files_rule, from_rule, keep_rule, out_rule, rounds_rule}
use Rattle.roster_request.proofs.CommandLineLemmas.{made_by}
use Rattle.roster_request.proofs.program.improve_command.Goals as goal

pub returns : goal.returns
returns c =
    let bare = new_app (codes "improve") in
    let with_rounds = made_by (λ (a : App). with_rule a rounds_rule) bare (Ok c.command.result) c.with_number-with_rounds.result c.command.ensures c.with_number-with_rounds.ensures in
    let with_out = made_by (λ (a : App). with_rule a out_rule) (with_rule bare rounds_rule) c.with_number-with_rounds.result c.with_out.result with_rounds c.with_out.ensures in
    made_by (λ (a : App). with_rule (with_rule (with_rule a from_rule) keep_rule) files_rule) (with_rule (with_rule bare rounds_rule) out_rule) c.with_out.result c.with_weeks.result with_out c.with_weeks.ensures
