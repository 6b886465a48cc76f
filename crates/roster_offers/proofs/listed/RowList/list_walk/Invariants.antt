use Rattle.std.proofs.Common.{◌≡◌, length}
use Rattle.roster_offers.proofs.listed.RowList.list_walk.Given as goal

-- the list is as long as it was
abbrev pub invariant-loop-day : goal.invariant-loop-day
invariant-loop-day l = record {
  days : l.self.days ≡ l.fn.self.days;
  held : l.self.held ≡ l.fn.self.held;
  costs : length l.self.costs.items ≡ length l.fn.self.costs.items;
  indices : length l.self.indices.items ≡ length l.fn.self.indices.items;
  walk : length l.self.walk.items ≡ length l.fn.self.walk.items;
}
