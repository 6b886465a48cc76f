use Rattle.roster_offers.proofs.RowsByStates.{cheapest_row}
use Rattle.roster_offers.proofs.laws.cheapest_row_is_found_by_states.Goals as goal

pub returns : goal.returns
returns c = cheapest_row
