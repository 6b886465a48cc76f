use Rattle.std.proofs.Common.{◌≡◌, ◌++◌}
use Rattle.roster_bundle.specs.Token.{tokens_from, tokens_of}
use Rattle.roster_text.proofs.token.tokens.Given as goal

abbrev pub invariant-loop-token : goal.invariant-loop-token
invariant-loop-token l = l.kept.items ++ tokens_from l.token-iterator.text.now l.token-iterator.at ≡ tokens_of l.text
