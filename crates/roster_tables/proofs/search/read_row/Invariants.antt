use Rattle.std.proofs.Common.{◌≡◌, ℕ, List, Some, length}
use Rattle.roster_offers.specs.declared.offer.Offer.{Offer}
use Rattle.roster_offers.specs.Lists.{offers_on}
use Rattle.roster_tables.specs.Days.{IsReachableIn, best_of_days}
use Rattle.roster_tables.proofs.SearchLaws.{IsReadTo}
use Rattle.roster_tables.proofs.search.read_row.Given as goal

abbrev pub invariant-loop-day : goal.invariant-loop-day
invariant-loop-day l = record {
  reachable : IsReachableIn l.days l.day l.state;
  read : (cost : ℕ) (best : List Offer) → best_of_days l.days ≡ Some (cost, best) → IsReadTo l.days.search.case.now l.days.search.nurse l.days.search.scale (offers_on l.days.search.offers.now) l.day l.state l.row best;
  same_length : length l.row ≡ length l.fn.row;
}
