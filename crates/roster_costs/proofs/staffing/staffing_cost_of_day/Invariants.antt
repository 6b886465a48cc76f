use Rattle.std.proofs.Common.{◌≡◌, ◌*◌, ◌+◌, ◌≤◌}
use Rattle.roster_instance.specs.Counting.{sum_below}
use Rattle.roster_instance.specs.Meaning.{skill_count}
use Rattle.roster_rules.specs.Covers.{number_at}
use Rattle.roster_rules.specs.Penalties.{staffing_cost_of_slot}
use Rattle.roster_costs.proofs.staffing.staffing_cost_of_day.Given as goal

abbrev pub invariant-loop-shift : goal.invariant-loop-shift
invariant-loop-shift l = record {
  cost_is : l.cost ≡ sum_below l.shift (λ s. sum_below (skill_count l.case) (staffing_cost_of_slot l.case l.day (number_at l.covers) s));
  within : l.cost ≤ 16777216 * l.shift;
}

abbrev pub invariant-loop-skill : goal.invariant-loop-skill
invariant-loop-skill l = record {
  cost_is : l.cost ≡ l.initial.cost + sum_below l.skill (staffing_cost_of_slot l.case l.day (number_at l.covers) l.shift);
  within : l.cost ≤ l.initial.cost + 2097152 * l.skill;
}
