use Rattle.std.proofs.Common.{Ok, refl}
use Rattle.clap.specs.Words.{App, new_app, with_rule}
use Rattle.roster_request.specs.CommandLine.{files_rule, json_rule, report_of}
use Rattle.roster_request.proofs.CommandLineLemmas.{adds_known, made_by}
use Rattle.roster_request.proofs.program.with_report_command.Goals as goal

pub returns : goal.returns
returns c =
    let name = c.args.name.now in
    let with_json = made_by (λ (a : App). with_rule a json_rule) (new_app name) (Ok c.command.result) c.with_json.result c.command.ensures c.with_json.ensures in
    let command = made_by (λ (a : App). with_rule a files_rule) (with_rule (new_app name) json_rule) c.with_json.result c.with_files.result with_json c.with_files.ensures in
    adds_known (report_of name) c.args.program c.with_files.result c.with_command.result refl command c.with_command.ensures
