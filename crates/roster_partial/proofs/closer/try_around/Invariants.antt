use Rattle.std.proofs.Common.{◌+◌, ◌≤◌}
use Rattle.roster_offers.specs.Lists.{offers_on}
use Rattle.roster_partial.specs.Counts.{CountsSets}
use Rattle.roster_completion.specs.CompletionBounds.{search_extensions}
use Rattle.roster_partial.specs.Rates.{IsTried}
use Rattle.roster_partial.proofs.closer.try_around.Given as goal

abbrev pub invariant-trials : goal.invariant-trials
invariant-trials l = record {
  tried : IsTried l.bounded.search l.completion_bounds l.tried;
  counted : CountsSets l.bounded.search.case.now l.bounded.search.nurse (offers_on l.bounded.search.offers.now) l._trial l._trial l.fn.meter l.meter;
  most : l.meter + search_extensions l.bounded.search ≤ l.bounded.last_count;
}
