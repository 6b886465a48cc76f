use Rattle.std.proofs.Common.{Ok}
use Rattle.clap.specs.Words.{App, new_app, with_rule}
use Rattle.roster_request.specs.CommandLine.{searches_rule, seconds_rule, seed_rule}
use Rattle.roster_request.proofs.CommandLineLemmas.{made_by}
use Rattle.roster_request.proofs.program.searching_command.Goals as goal

pub returns : goal.returns
returns c =
    let bare = new_app c.args.name.now in
    let searches = c.with_optional-with_searches in
    let seconds = c.with_optional-with_seconds in
    let with_searches = made_by (λ (a : App). with_rule a searches_rule) bare (Ok c.command.result) searches.result c.command.ensures searches.ensures in
    let with_seconds = made_by (λ (a : App). with_rule a seconds_rule) (with_rule bare searches_rule) searches.result seconds.result with_searches seconds.ensures in
    made_by (λ (a : App). with_rule a seed_rule) (with_rule (with_rule bare searches_rule) seconds_rule) seconds.result c.with_number.result with_seconds c.with_number.ensures
