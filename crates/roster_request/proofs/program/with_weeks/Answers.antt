use Rattle.clap.specs.Words.{App, with_rule}
use Rattle.roster_request.specs.CommandLine.{files_rule, from_rule, keep_rule}
use Rattle.roster_request.proofs.CommandLineLemmas.{made_by_both}
use Rattle.roster_request.proofs.program.with_weeks.Goals as goal

pub returns : goal.returns
returns c =
    let from : App → App = λ a. with_rule a from_rule in
    let keep : App → App = λ a. with_rule a keep_rule in
    let both = made_by_both from keep c.args.command c.with_number-with_from.result c.with_number.result c.with_number-with_from.ensures c.with_number.ensures in
    made_by_both (λ (a : App). keep (from a)) (λ (a : App). with_rule a files_rule) c.args.command c.with_number.result c.with_files.result both c.with_files.ensures
