use Rattle.std.proofs.Common.{Ok, codes}
use Rattle.clap.specs.Words.{App, new_app, with_rule}
use Rattle.roster_request.specs.CommandLine.{files_rule, from_rule, keep_rule, nodes_rule, rounds_rule, seconds_rule}
use Rattle.roster_request.proofs.CommandLineLemmas.{made_by}
use Rattle.roster_request.proofs.program.bound_command.Goals as goal

pub returns : goal.returns
returns c =
    let bare = new_app (codes "bound") in
    let with_rounds = made_by (λ (a : App). with_rule a rounds_rule) bare (Ok c.command.result) c.with_number-with_rounds.result c.command.ensures c.with_number-with_rounds.ensures in
    let nodes = c.with_number-with_nodes in
    let with_nodes = made_by (λ (a : App). with_rule a nodes_rule) (with_rule bare rounds_rule) c.with_number-with_rounds.result nodes.result with_rounds nodes.ensures in
    let searching = with_rule (with_rule bare rounds_rule) nodes_rule in
    let with_seconds = made_by (λ (a : App). with_rule a seconds_rule) searching nodes.result c.with_optional.result with_nodes c.with_optional.ensures in
    made_by (λ (a : App). with_rule (with_rule (with_rule a from_rule) keep_rule) files_rule) (with_rule searching seconds_rule) c.with_optional.result c.with_weeks.result with_seconds c.with_weeks.ensures
