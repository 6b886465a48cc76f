use Rattle.std.proofs.Common.{◌≡◌, ◌*◌, ◌≤◌}
use Rattle.roster_instance.specs.Counting.{sum_below}
use Rattle.roster_instance.specs.Meaning.{minimum}
use Rattle.roster_laws.specs.Staffing.{shortfall}
use Rattle.roster_costs.specs.Minimums.{present}
use Rattle.roster_costs.proofs.minimums.missing.Given as goal

abbrev pub invariant-loop-day : goal.invariant-loop-day
invariant-loop-day l = record {
  missing_is : l.missing ≡ sum_below l.day (λ d. shortfall l.case (minimum l.case d) (present l.case l.roster d));
  within : l.missing ≤ 4194304 * l.day;
}
