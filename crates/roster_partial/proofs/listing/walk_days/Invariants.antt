use Rattle.std.proofs.Common.{◌≤◌, length}
use Rattle.roster_offers.specs.Listed.{KeepsList}
use Rattle.roster_partial.proofs.listing.walk_days.Given as goal

-- each turn counts at most one extension
abbrev pub invariant-turns : goal.invariant-turns
invariant-turns l = record {
  kept : KeepsList l.fn.list l.list;
  few : l.list.held ≤ length l.list.costs.items;
  from : l.fn.meter ≤ l.meter;
  counted : l.meter ≤ l._turn;
}
