use Rattle.std.proofs.Common.{◌*◌, ◌≤◌}
use Rattle.roster_instance.specs.Counting.{sum_below}
use Rattle.roster_instance.specs.Sizes.{choice_count}
use Rattle.roster_state.specs.Codes.{product}
use Rattle.roster_offers.specs.Lists.{offers_on}
use Rattle.roster_tables.specs.Search.{extensions_on}
use Rattle.roster_tables.proofs.extensions.extensions_at_most.Given as goal

abbrev pub invariant-loop-day : goal.invariant-loop-day
invariant-loop-day l = record {
  all : sum_below l.day (extensions_on l.search.case.now l.search.nurse (offers_on l.search.offers.now) l.boxes.days) ≤ l.extensions;
  within : l.extensions ≤ l.day * (product l.ranges * choice_count l.search.case.now l.search.nurse);
  small : l.extensions ≤ l.day * 16777216;
}
