use Rattle.roster_completion.proofs.CompletionLaw.{bounds_under}
use Rattle.roster_completion.proofs.laws.completion_bounds_lie_under_the_rest.Goals as goal

pub returns : goal.returns
returns c = bounds_under
