use Rattle.std.proofs.Common.{◌≡◌, ◌+◌, ◌*◌, ◌<◌, ℕ, [], length, slice_index_or, vec_capacity}
use Rattle.roster_instance.specs.Meaning.{day_count}
use Rattle.roster_offers.specs.Lists.{offers_on}
use Rattle.roster_row.specs.Recalled.{ArePrices}
use Rattle.roster_row.proofs.RecallLaws.{Outside}
use Rattle.roster_row.proofs.last.LastSearches.remember.Given as goal

abbrev pub invariant-loop-day : goal.invariant-loop-day
invariant-loop-day l = record {
  costs : l.self.costs ≡ l.fn.self.costs;
  capacity : vec_capacity l.self.prices ≡ vec_capacity l.fn.self.prices;
  length : length l.self.prices.items ≡ length l.fn.self.prices.items;
  put : (d : ℕ) → d < l.day → ArePrices (offers_on l.offers d) (slice_index_or l.self.prices.items (l.nurse * day_count l.case + d) []);
  others : (i : ℕ) → Outside l.case l.nurse i → slice_index_or l.self.prices.items i [] ≡ slice_index_or l.fn.self.prices.items i [];
}
