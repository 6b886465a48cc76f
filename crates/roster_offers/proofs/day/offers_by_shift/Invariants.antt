use Rattle.std.proofs.Common.{◌≡◌, ◌+◌, ◌≤◌, length}
use Rattle.roster_offers.specs.Offers.{cheapest_by_shift, offer_at, offers_among, takes}
use Rattle.roster_offers.proofs.Among.{of_shifts}
use Rattle.roster_offers.proofs.day.offers_by_shift.Given as goal

abbrev pub invariant-loop-shift : goal.invariant-loop-shift
invariant-loop-shift g l = record {
  so_far : l.offers.items ≡ cheapest_by_shift (offers_among (takes l.at.case.now l.at.nurse (g.O.Offering.is_open l.by l.at.nurse) l.at.day) (offer_at (g.O.Offering.price l.by l.at.nurse) l.at.day) (of_shifts l.at.case.now l.shift));
  few : length l.offers.items ≤ 1 + l.shift;
}
