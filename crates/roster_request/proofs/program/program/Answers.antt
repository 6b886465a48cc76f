use Rattle.std.proofs.Common.{Ok, codes, drop}
use Rattle.std.specs.List.{fold}
use Rattle.clap.specs.Words.{App, Text, with_subcommand}
use Rattle.roster_request.specs.CommandLine.{bare, command_of, commands, report_of}
use Rattle.roster_request.proofs.CommandLineLemmas.{made_by}
use Rattle.roster_request.proofs.program.program.Goals as goal

-- a program with a command that reads files, and with one that writes a report
abbrev shows : App → App
shows p = with_subcommand p (command_of (codes "show")).top

abbrev reports : Text → App → App
reports name p = with_subcommand p (report_of name).top

pub returns : goal.returns
returns c =
    let show = c.with_files_command-with_show in
    let cost = c.with_report_command-with_cost in
    let sizes = c.with_report_command-with_sizes in
    let with_show = made_by shows bare (Ok c.bare.result) show.result c.bare.ensures show.ensures in
    let with_cost = made_by (reports (codes "cost")) (shows bare) show.result cost.result with_show cost.ensures in
    let with_sizes = made_by (reports (codes "sizes")) (reports (codes "cost") (shows bare)) cost.result sizes.result with_cost sizes.ensures in
    made_by (λ p. fold with_subcommand p (drop 3 commands)) (reports (codes "sizes") (reports (codes "cost") (shows bare))) sizes.result c.with_search_commands.result with_sizes c.with_search_commands.ensures
