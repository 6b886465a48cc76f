use Rattle.std.proofs.Common.{◌≡◌, ◌*◌, ◌≤◌, slice_index_or}
use Rattle.roster_instance.specs.Counting.{sum_below}
use Rattle.roster_case.proofs.counts.Counts.total.Given as goal

abbrev pub invariant-loop-nurse : goal.invariant-loop-nurse
invariant-loop-nurse l = record {
  cost_is : l.cost ≡ sum_below l.nurse (λ n. slice_index_or l.self.nurse_costs.items n 0);
  within : l.cost ≤ 4294967295 * l.nurse;
}
