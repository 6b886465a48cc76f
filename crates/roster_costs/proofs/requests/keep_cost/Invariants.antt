use Rattle.std.proofs.Common.{◌≡◌, ◌*◌, ◌≤◌}
use Rattle.roster_instance.specs.Choices.{days_of}
use Rattle.roster_instance.specs.Counting.{sum_below}
use Rattle.roster_instance.specs.Days.{shift_on}
use Rattle.roster_instance.specs.Limits.{most_keep}
use Rattle.roster_rules.specs.Penalties.{keep_cost_on}
use Rattle.roster_costs.proofs.requests.keep_cost.Given as goal

abbrev pub invariant-loop-day : goal.invariant-loop-day
invariant-loop-day l = record {
  cost_is : l.cost ≡ sum_below l.day (λ d. keep_cost_on l.case l.nurse d (shift_on (days_of l.row) d));
  within : l.cost ≤ most_keep * l.day;
}
