use Rattle.std.proofs.Common.{subst}
use Rattle.roster_prices.specs.LowerBounds.{IsLowerBound}
use Rattle.roster_bound.proofs.laws.met_bound_is_least.Goals as goal

pub returns : goal.returns
returns c case from given bound r below met = subst (IsLowerBound case from given) met below
