use Rattle.std.proofs.lemmas.Option.{IfSome_then}
use Rattle.roster_request.proofs.words.searches_of.Goals as goal

pub returns-clause-range : goal.returns-clause-range
returns-clause-range c = IfSome_then c.number_if_given.result c.number_if_given.ensures.range (λ n within. within.1)
