use Rattle.std.proofs.Common.{◌≡◌, ◌*◌, ◌≤◌}
use Rattle.roster_instance.specs.Counting.{sum_below}
use Rattle.roster_instance.specs.Meaning.{minimum}
use Rattle.roster_instance.specs.Rosters.{cover}
use Rattle.roster_laws.specs.Staffing.{shortfall}
use Rattle.roster_who.proofs.figures.missed.Given as goal

abbrev pub invariant-loop-day : goal.invariant-loop-day
invariant-loop-day l = record {
  missed_is : l.missed ≡ sum_below l.day (λ d. shortfall l.case (minimum l.case d) (cover l.roster d));
  within : l.missed ≤ 4194304 * l.day;
}
