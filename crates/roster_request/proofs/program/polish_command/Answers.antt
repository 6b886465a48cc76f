use Rattle.std.proofs.Common.{codes}
use Rattle.clap.specs.Words.{App, with_rule}
use Rattle.roster_request.specs.CommandLine.{files_rule, from_rule, keep_rule, kicks_rule, out_rule, searching}
use Rattle.roster_request.proofs.CommandLineLemmas.{made_by}
use Rattle.roster_request.proofs.program.polish_command.Goals as goal

pub returns : goal.returns
returns c =
    let before = searching (codes "polish") in
    let with_kicks = made_by (λ (a : App). with_rule a kicks_rule) before c.searching_command-searching.result c.with_kicks-with_kicks.result c.searching_command-searching.ensures c.with_kicks-with_kicks.ensures in
    let kicking = with_rule before kicks_rule in
    let with_out = made_by (λ (a : App). with_rule a out_rule) kicking c.with_kicks-with_kicks.result c.with_out.result with_kicks c.with_out.ensures in
    made_by (λ (a : App). with_rule (with_rule (with_rule a from_rule) keep_rule) files_rule) (with_rule kicking out_rule) c.with_out.result c.with_weeks.result with_out c.with_weeks.ensures
