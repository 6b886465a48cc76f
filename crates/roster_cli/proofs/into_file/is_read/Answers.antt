use Rattle.std.proofs.Common.{◌∙◌, sym}
use Rattle.std.proofs.lemmas.Bool.{true≢false}
use Rattle.roster_cli.proofs.OutLemmas.{named_found}
use Rattle.roster_cli.proofs.into_file.is_read.Goals as goal

-- a file that is named by the path would have been found
pub returns-else-is_named : goal.returns-else-is_named
returns-else-is_named g c = record {
  named = λ contains. absurd (true≢false (sym (c.is_named.ensures ∙ named_found c.args.path.now c.args.files.now contains) ∙ c.if-is_named.false));
}
