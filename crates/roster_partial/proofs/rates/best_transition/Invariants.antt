use Rattle.std.proofs.Common.{◌+◌, ◌≤◌, IfSome}
use Rattle.roster_partial.specs.Rates.{FitsNurse}
use Rattle.roster_partial.proofs.rates.best_transition.Given as goal

abbrev pub invariant-loop-index : goal.invariant-loop-index
invariant-loop-index l = record {
  fits : IfSome l.best (λ transition. FitsNurse l.search transition.state);
  from : l.fn.meter ≤ l.meter;
  few : l.meter ≤ l.fn.meter + l.index;
}
