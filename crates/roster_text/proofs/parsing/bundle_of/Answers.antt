use Rattle.std.proofs.Common.{All, length, sym, subst}
use Rattle.roster_bundle.specs.Token.{IsWithin}
use Rattle.roster_bundle.specs.declared.token.Token.{Token}
use Rattle.std.proofs.Common.{List}
use Rattle.roster_text.proofs.TokenFacts.{tokens_are}
use Rattle.roster_text.proofs.parsing.bundle_of.Goals as goal

pub new-parser-requires : goal.new-parser-requires
new-parser-requires c = subst (λ (ts : List Token). All (IsWithin (length c.args.source.now)) ts) (sym c.requires) (tokens_are c.args.source.now).within
