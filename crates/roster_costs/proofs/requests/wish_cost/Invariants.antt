use Rattle.std.proofs.Common.{◌≡◌, ◌*◌, ◌≤◌, if◌then◌else◌}
use Rattle.roster_instance.specs.Choices.{days_of}
use Rattle.roster_instance.specs.Counting.{sum_below}
use Rattle.roster_instance.specs.Days.{shift_on}
use Rattle.roster_rules.specs.Penalties.{meets_wishes}
use Rattle.roster_rules.specs.Weights.{wish_weight}
use Rattle.roster_costs.proofs.requests.wish_cost.Given as goal

abbrev pub invariant-loop-day : goal.invariant-loop-day
invariant-loop-day l = record {
  cost_is : l.cost ≡ sum_below l.day (λ d. if meets_wishes l.case l.nurse d (shift_on (days_of l.row) d) then 0 else wish_weight);
  within : l.cost ≤ wish_weight * l.day;
}
