use Rattle.std.proofs.Common.{◌≡◌, ◌≤◌, not}
use Rattle.roster_instance.specs.Choices.{same_choice}
use Rattle.roster_instance.specs.Counting.{count_below}
use Rattle.roster_instance.specs.Rosters.{choice_on}
use Rattle.roster_who.proofs.figures.changed_days.Given as goal

abbrev pub invariant-loop-day : goal.invariant-loop-day
invariant-loop-day l = record {
  changed_is : l.changed ≡ count_below l.day (λ d. not (same_choice (choice_on l.row d) (choice_on l.given d)));
  within : l.changed ≤ l.day;
}
