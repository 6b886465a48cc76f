use Rattle.std.proofs.Common.{◌≡◌, ◌*◌, ◌≤◌, length}
use Rattle.roster_instance.specs.Counting.{sum_below}
use Rattle.roster_offers.specs.Lists.{offers_on}
use Rattle.roster_completion.proofs.set.completion_extensions.Given as goal

abbrev pub invariant-loop-day : goal.invariant-loop-day
invariant-loop-day l = record {
  sum : l.offers ≡ sum_below l.day (λ d. length (offers_on l.search.offers.now d));
  few : l.offers ≤ l.day * 9;
}
