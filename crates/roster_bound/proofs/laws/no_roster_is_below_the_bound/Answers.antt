use Rattle.roster_bound.proofs.Duality.{no_roster_below}
use Rattle.roster_bound.proofs.laws.no_roster_is_below_the_bound.Goals as goal

pub returns : goal.returns
returns c case from given scale w some are = no_roster_below case from given scale w some are
