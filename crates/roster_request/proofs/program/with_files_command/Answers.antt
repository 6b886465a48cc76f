use Rattle.std.proofs.Common.{Ok, refl}
use Rattle.clap.specs.Words.{App, new_app, with_rule}
use Rattle.roster_request.specs.CommandLine.{command_of, files_rule}
use Rattle.roster_request.proofs.CommandLineLemmas.{adds_known, made_by}
use Rattle.roster_request.proofs.program.with_files_command.Goals as goal

pub returns : goal.returns
returns c =
    let name = c.args.name.now in
    let command = made_by (λ (a : App). with_rule a files_rule) (new_app name) (Ok c.command.result) c.with_files.result c.command.ensures c.with_files.ensures in
    adds_known (command_of name) c.args.program c.with_files.result c.with_command.result refl command c.with_command.ensures
