use Rattle.std.proofs.Common.{Ok, codes}
use Rattle.clap.specs.Words.{App, new_app, with_rule}
use Rattle.roster_request.specs.CommandLine.{day_rule, files_rule, from_rule, json_rule, shift_rule, skill_rule}
use Rattle.roster_request.proofs.CommandLineLemmas.{made_by}
use Rattle.roster_request.proofs.program.who_command.Goals as goal

pub returns : goal.returns
returns c =
    let bare = new_app (codes "who") in
    let day = with_rule bare day_rule in
    let shift = with_rule day shift_rule in
    let with_day = made_by (λ (a : App). with_rule a day_rule) bare (Ok c.command.result) c.with_given-with_day.result c.command.ensures c.with_given-with_day.ensures in
    let with_shift = made_by (λ (a : App). with_rule a shift_rule) day c.with_given-with_day.result c.with_given-with_shift.result with_day c.with_given-with_shift.ensures in
    let with_skill = made_by (λ (a : App). with_rule a skill_rule) shift c.with_given-with_shift.result c.with_skill.result with_shift c.with_skill.ensures in
    let with_from = made_by (λ (a : App). with_rule a from_rule) (with_rule shift skill_rule) c.with_skill.result c.with_number-with_from.result with_skill c.with_number-with_from.ensures in
    let with_json = made_by (λ (a : App). with_rule a json_rule) (with_rule (with_rule shift skill_rule) from_rule) c.with_number-with_from.result c.with_json.result with_from c.with_json.ensures in
    made_by (λ (a : App). with_rule a files_rule) (with_rule (with_rule (with_rule shift skill_rule) from_rule) json_rule) c.with_json.result c.with_files.result with_json c.with_files.ensures
