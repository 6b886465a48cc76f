use Rattle.std.proofs.Common.{◌≡◌}
use Rattle.roster_tests.proofs.state_tests.rows_cost.Given as goal

abbrev pub invariant-loop-nurse : goal.invariant-loop-nurse
invariant-loop-nurse l = l.case ≡ l.initial.case
