use Rattle.std.proofs.Common.{◌≡◌, ◌≤◌, ◌+◌}
use Rattle.roster_instance.specs.Choices.{days_of}
use Rattle.roster_instance.specs.Counting.{count_below}
use Rattle.roster_instance.specs.Days.{one_alone, saturday, works}
use Rattle.roster_costs.proofs.weekends.split_weekends.Given as goal

abbrev pub invariant-loop-week : goal.invariant-loop-week
invariant-loop-week l = record {
  count_is : l.count ≡ count_below l.week (λ v. one_alone (works (days_of l.row) (saturday v)) (works (days_of l.row) (saturday v + 1)));
  within : l.count ≤ l.week;
}
