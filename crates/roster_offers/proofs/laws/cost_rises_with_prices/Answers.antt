use Rattle.roster_offers.proofs.RiseLaws.{cost_has_risen}
use Rattle.roster_offers.proofs.laws.cost_rises_with_prices.Goals as goal

pub returns : goal.returns
returns c = cost_has_risen
