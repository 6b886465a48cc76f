use Rattle.std.proofs.Common.{ap, arith}
use Rattle.roster_rules.specs.Penalties.{penalty, total_cost}
use Rattle.roster_who.proofs.figures.penalty.Goals as goal

pub returns : goal.returns
unfolding penalty
returns c = omega (arith, c.total.ensures, c.costs.ensures.within, ap total_cost c.costs.ensures.costs)
