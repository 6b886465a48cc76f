use Rattle.std.proofs.Common.{sym, subst, arith}
use Rattle.std.proofs.lemmas.Grind.{common_steps}
use Rattle.roster_bundle.specs.Token.{AreTokensOf}
use Rattle.roster_text.proofs.TokenFacts.{tokens_are}
use Rattle.roster_text.proofs.token.tokens.Goals as goal

pub returns-clause-exact : goal.returns-clause-exact
returns-clause-exact c = grind (arith, common_steps)

pub returns-clause-facts : goal.returns-clause-facts
returns-clause-facts c = subst (AreTokensOf c.args.text.now) (sym (returns-clause-exact c)) (tokens_are c.args.text.now)

pub returns-clause-within : goal.returns-clause-within
returns-clause-within c = (returns-clause-facts c).within
