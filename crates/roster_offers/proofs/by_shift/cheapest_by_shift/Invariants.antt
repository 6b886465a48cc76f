use Rattle.std.proofs.Common.{◌≡◌, take}
use Rattle.roster_offers.specs.Offers.{cheapest_by_shift}
use Rattle.roster_offers.proofs.by_shift.cheapest_by_shift.Given as goal

abbrev pub invariant-loop-index : goal.invariant-loop-index
invariant-loop-index l = l.kept.items ≡ cheapest_by_shift (take l.index l.offers)
