use Rattle.roster_offers.proofs.ByOffers.{offered_cost_at, offered_least_at, offered_some_at}
use Rattle.roster_offers.proofs.laws.cheapest_offered_row_is_found_at_a_scale.Goals as goal

pub returns-clause-some : goal.returns-clause-some
returns-clause-some c = offered_some_at

pub returns-clause-least : goal.returns-clause-least
returns-clause-least c = offered_least_at

pub returns-clause-cost : goal.returns-clause-cost
returns-clause-cost c = offered_cost_at
