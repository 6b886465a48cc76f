use Rattle.std.proofs.Common.{◌≡◌}
use Rattle.roster_costs.specs.Sums.{AreWithin, costs_before}
use Rattle.roster_costs.proofs.costing.by_rule.Given as goal

abbrev pub invariant-loop-nurse : goal.invariant-loop-nurse
invariant-loop-nurse l = record {
  costs : l.costs ≡ costs_before l.case l.roster l.nurse;
  within : AreWithin l.costs l.nurse;
}
