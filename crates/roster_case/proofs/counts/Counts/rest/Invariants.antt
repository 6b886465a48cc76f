use Rattle.std.proofs.Common.{◌≡◌, ◌*◌, ◌≤◌, ◌==◌, if◌then◌else◌, slice_index_or}
use Rattle.roster_instance.specs.Counting.{sum_below}
use Rattle.roster_case.proofs.counts.Counts.rest.Given as goal

abbrev pub invariant-loop-other : goal.invariant-loop-other
invariant-loop-other l = record {
  cost_is : l.cost ≡ sum_below l.other (λ m. if m == l.nurse then 0 else slice_index_or l.self.nurse_costs.items m 0);
  within : l.cost ≤ 4294967295 * l.other;
}
