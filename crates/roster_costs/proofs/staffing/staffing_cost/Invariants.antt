use Rattle.std.proofs.Common.{◌≡◌, ◌*◌, ◌≤◌}
use Rattle.roster_instance.specs.Counting.{sum_below}
use Rattle.roster_rules.specs.Penalties.{staffing_cost_of_day}
use Rattle.roster_costs.specs.Sums.{most_staffing_of_day}
use Rattle.roster_costs.proofs.staffing.staffing_cost.Given as goal

abbrev pub invariant-loop-day : goal.invariant-loop-day
invariant-loop-day l = record {
  cost_is : l.cost ≡ sum_below l.day (staffing_cost_of_day l.case l.roster);
  within : l.cost ≤ most_staffing_of_day * l.day;
}
