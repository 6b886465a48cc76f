use Rattle.std.proofs.Common.{◌≡◌, ◌≤◌}
use Rattle.roster_instance.specs.Choices.{days_of}
use Rattle.roster_instance.specs.Counting.{count_below}
use Rattle.roster_instance.specs.Days.{works}
use Rattle.roster_costs.proofs.totals.days_worked.Given as goal

abbrev pub invariant-loop-choice : goal.invariant-loop-choice
invariant-loop-choice l = record {
  days_are : l.days ≡ count_below l.choice-index (works (days_of l.row));
  within : l.days ≤ l.choice-index;
}
