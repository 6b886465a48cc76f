use Rattle.std.proofs.Common.{◌≡◌, ◌*◌, ◌≤◌, if◌then◌else◌}
use Rattle.roster_instance.specs.Choices.{days_of}
use Rattle.roster_instance.specs.Counting.{sum_below}
use Rattle.roster_instance.specs.Days.{shift_on}
use Rattle.roster_rules.specs.Penalties.{breaks_off_request}
use Rattle.roster_rules.specs.Weights.{off_request_weight}
use Rattle.roster_costs.proofs.requests.off_request_cost.Given as goal

abbrev pub invariant-loop-day : goal.invariant-loop-day
invariant-loop-day l = record {
  cost_is : l.cost ≡ sum_below l.day (λ d. if breaks_off_request l.case l.nurse d (shift_on (days_of l.row) d) then off_request_weight else 0);
  within : l.cost ≤ off_request_weight * l.day;
}
