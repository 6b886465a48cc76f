use Rattle.roster_offers.proofs.AtOne.{best_one}
use Rattle.roster_offers.proofs.laws.scale_one_is_plain.Goals as goal

pub returns : goal.returns
returns g c n offers m d s = best_one c n offers m d s
