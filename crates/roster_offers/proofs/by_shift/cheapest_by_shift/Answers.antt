use Rattle.roster_offers.specs.Offers.{cheapest_by_shift}
use Rattle.roster_offers.proofs.by_shift.cheapest_by_shift.Goals as goal

pub loop-index-init : goal.loop-index-init
unfolding cheapest_by_shift
loop-index-init c = c.new-kept.ensures
