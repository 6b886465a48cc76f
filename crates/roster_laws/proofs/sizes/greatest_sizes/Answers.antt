use Rattle.roster_laws.proofs.GreatestLemmas.{greatest_extensions, greatest_states}
use Rattle.roster_laws.proofs.sizes.greatest_sizes.Goals as goal

pub returns-clause-states : goal.returns-clause-states
returns-clause-states c = greatest_states

pub returns-clause-extensions : goal.returns-clause-extensions
returns-clause-extensions c = greatest_extensions
