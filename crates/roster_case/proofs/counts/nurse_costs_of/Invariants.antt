use Rattle.std.proofs.Common.{◌≡◌, ◌<◌, ℕ, length, slice_index_or}
use Rattle.roster_instance.specs.Rosters.{days_of_nurse}
use Rattle.roster_rules.specs.Penalties.{nurse_cost}
use Rattle.roster_case.proofs.counts.nurse_costs_of.Given as goal

abbrev pub invariant-loop-nurse : goal.invariant-loop-nurse
invariant-loop-nurse l = record {
  nurses : length l.costs.items ≡ l.nurse;
  costs_are : (n : ℕ) → n < l.nurse → slice_index_or l.costs.items n 0 ≡ nurse_cost l.case n (days_of_nurse l.roster n);
}
