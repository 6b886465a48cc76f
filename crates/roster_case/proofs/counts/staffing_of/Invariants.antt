use Rattle.std.proofs.Common.{◌≡◌, ◌*◌, ◌<◌, ◌≤◌, ℕ, length, slice_index_or}
use Rattle.roster_instance.specs.Counting.{sum_below}
use Rattle.roster_rules.specs.Penalties.{staffing_cost_of_day}
use Rattle.roster_costs.specs.Sums.{most_staffing_of_day}
use Rattle.roster_case.specs.Held.{IsDay, no_day}
use Rattle.roster_case.proofs.counts.staffing_of.Given as goal

abbrev pub invariant-loop-day : goal.invariant-loop-day
invariant-loop-day l = record {
  days : length l.days.items ≡ l.day;
  counted : (d : ℕ) → d < l.day → IsDay l.case l.roster d (slice_index_or l.days.items d no_day);
  cost_is : l.cost ≡ sum_below l.day (staffing_cost_of_day l.case l.roster);
  within : l.cost ≤ most_staffing_of_day * l.day;
}
