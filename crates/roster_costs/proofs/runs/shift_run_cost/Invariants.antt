use Rattle.std.proofs.Common.{◌≡◌, ◌*◌, ◌≤◌}
use Rattle.roster_instance.specs.Choices.{days_of}
use Rattle.roster_instance.specs.Counting.{sum_below}
use Rattle.roster_instance.specs.Limits.{most_days}
use Rattle.roster_rules.specs.Penalties.{run_cost_of_shift}
use Rattle.roster_rules.specs.Weights.{shift_run_weight}
use Rattle.roster_costs.proofs.runs.shift_run_cost.Given as goal

abbrev pub invariant-loop-shift : goal.invariant-loop-shift
invariant-loop-shift l = record {
  cost_is : l.cost ≡ sum_below l.shift (run_cost_of_shift l.case l.nurse (days_of l.row));
  within : l.cost ≤ shift_run_weight * 65536 * most_days * l.shift;
}
