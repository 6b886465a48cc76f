use Rattle.std.proofs.Common.{◌+◌, ◌*◌, ◌≤◌}
use Rattle.roster_partial.specs.Rates.{FitsNurse, most_offers}
use Rattle.roster_partial.proofs.rates.follow.Given as goal

abbrev pub invariant-loop-day : goal.invariant-loop-day
invariant-loop-day l = record {
  fits : FitsNurse l.search l.state;
  from : l.fn.meter ≤ l.meter;
  few : l.meter ≤ l.fn.meter + most_offers * l.day;
}
