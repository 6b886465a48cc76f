use Rattle.std.proofs.Common.{refl, arith}
use Rattle.roster_bundle.specs.Token.{line_feeds}
use Rattle.roster_text.proofs.TokenLemmas.{IsBetweenTokens-start}
use Rattle.roster_text.proofs.token.Scanner.new.Goals as goal

pub invariant_of-result-clause-in_text : goal.invariant_of-result-clause-in_text
invariant_of-result-clause-in_text c = omega arith

pub invariant_of-result-clause-on_line : goal.invariant_of-result-clause-on_line
unfolding line_feeds
invariant_of-result-clause-on_line c = refl

pub invariant_of-result-clause-between_tokens : goal.invariant_of-result-clause-between_tokens
invariant_of-result-clause-between_tokens c = IsBetweenTokens-start _
