use Rattle.roster_offers.proofs.ByOffers.{offered_cost, offered_least, offered_some}
use Rattle.roster_offers.proofs.laws.cheapest_offered_row_is_found.Goals as goal

pub returns-clause-some : goal.returns-clause-some
returns-clause-some c = offered_some

pub returns-clause-least : goal.returns-clause-least
returns-clause-least c = offered_least

pub returns-clause-cost : goal.returns-clause-cost
returns-clause-cost c = offered_cost
