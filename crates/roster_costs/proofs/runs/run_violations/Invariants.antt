use Rattle.std.proofs.Common.{◌≡◌, ◌+◌, ◌*◌, ◌≤◌}
use Rattle.roster_instance.specs.Choices.{days_of}
use Rattle.roster_instance.specs.Days.{shift_on}
use Rattle.roster_costs.specs.Kinds.{is_of}
use Rattle.roster_rules.specs.Runs.{open_run, run_violations}
use Rattle.roster_costs.proofs.runs.run_violations.Given as goal

abbrev pub invariant-loop-choice : goal.invariant-loop-choice
invariant-loop-choice l = record {
  run_is : l.run ≡ open_run l.before (λ d. is_of l.kind (shift_on (days_of l.row) d)) l.choice-index;
  violations_are : l.violations ≡ run_violations l.limits l.before (λ d. is_of l.kind (shift_on (days_of l.row) d)) l.choice-index;
  run_within : l.run ≤ 65535 + l.choice-index;
  violations_within : l.violations ≤ 65536 * l.choice-index;
}
