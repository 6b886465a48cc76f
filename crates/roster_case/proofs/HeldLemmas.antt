-- What the counts of a held roster add up to.
use Rattle.std.proofs.Common.{◌≡◌, ◌∙◌, ◌+◌, ◌==◌, ℕ, ap, arith, length, slice_index_or, if◌then◌else◌}
use Rattle.roster_instance.specs.Counting.{sum_below}
use Rattle.roster_instance.specs.Meaning.{Meaning, nurse_count}
use Rattle.roster_instance.specs.Rosters.{Rows, days_of_nurse}
use Rattle.roster_rules.specs.Penalties.{nurse_cost, over_nurses, penalty}
use Rattle.roster_rules.proofs.RunSums.{sum_same}
use Rattle.roster_case.specs.declared.counts.Counts.{Counts}
use Rattle.roster_case.specs.Held.{AreCounts}
use Rattle.roster_laws.specs.OneRow.{rest_of}
use Rattle.roster_laws.proofs.OneRow.{penalty-parts}

module _ (c : Meaning) (r : Rows) (counts : Counts) (counted : AreCounts c r counts) where
  pub rest_is : (n : ℕ) → sum_below (length counts.nurse_costs.items) (λ m. if m == n then 0 else slice_index_or counts.nurse_costs.items m 0) ≡ rest_of c r n
  rest_is n =
      ap (λ m. sum_below m (λ k. if k == n then 0 else slice_index_or counts.nurse_costs.items k 0)) counted.nurses
      ∙ sum_same (nurse_count c) _ (λ m. if m == n then 0 else nurse_cost c m (days_of_nurse r m)) (λ m h. ap (λ x. if m == n then 0 else x) (counted.costs m h))

  pub total_is : counts.staffing_cost + sum_below (length counts.nurse_costs.items) (λ n. slice_index_or counts.nurse_costs.items n 0) ≡ penalty c r
  total_is =
      let costs : sum_below (length counts.nurse_costs.items) (λ n. slice_index_or counts.nurse_costs.items n 0) ≡ over_nurses c r (nurse_cost c) =
      ap (λ m. sum_below m (λ k. slice_index_or counts.nurse_costs.items k 0)) counted.nurses ∙ sum_same (nurse_count c) _ (λ n. nurse_cost c n (days_of_nurse r n)) (λ n h. counted.costs n h) in
      omega (arith, counted.staffing, costs, penalty-parts c r)
