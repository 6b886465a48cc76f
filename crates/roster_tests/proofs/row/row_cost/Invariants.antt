use Rattle.std.proofs.Common.{◌≡◌, ◌+◌, ◌*◌, ◌<◌, ◌≤◌, false, true, ℕ, take}
use Rattle.roster_instance.specs.Choices.{days_of}
use Rattle.roster_instance.specs.Days.{shift_on}
use Rattle.roster_rules.specs.HardRules.{shift_before}
use Rattle.roster_instance.specs.Meaning.{last_shift, past_of, forbids}
use Rattle.roster_rules.specs.Prefix.{due, summary_of}
use Rattle.roster_state.specs.Codes.{fits_sizes, sizes_of}
use Rattle.roster_state.specs.MostCosts.{most_at_start, most_of_transition}
use Rattle.roster_tests.proofs.row.row_cost.Given as goal

abbrev pub invariant-loop-day : goal.invariant-loop-day
invariant-loop-day l = record {
  state_is : l.state ≡ summary_of l.case l.nurse (days_of (take l.day l.row));
  cost_is : l.cost ≡ due l.case l.nurse (days_of (take l.day l.row));
  fitting : fits_sizes (sizes_of l.case l.nurse) l.state ≡ true;
  kept : (d : ℕ) → d < l.day → forbids l.case.successions (shift_before (last_shift (past_of l.case l.nurse).border) (days_of l.row) d) (shift_on (days_of l.row) d) ≡ false;
  within : l.cost ≤ most_at_start + most_of_transition * l.day;
  counted : l.meter ≡ l.fn.meter + l.day;
}
