use Rattle.roster_laws.proofs.Fives.{five_is}
use Rattle.roster_bound.proofs.Duality.{rounded_below}
use Rattle.roster_bound.proofs.laws.bounds_are_rounded_up.Goals as goal

pub returns-clause-fives : goal.returns-clause-fives
returns-clause-fives c case r five = five_is case five r

pub returns-clause-bounds : goal.returns-clause-bounds
returns-clause-bounds c case from given bound below r fits keeps stays = rounded_below case r bound (below r fits keeps stays)
