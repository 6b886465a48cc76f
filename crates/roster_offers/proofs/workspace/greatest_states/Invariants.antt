use Rattle.std.proofs.Common.{◌≡◌, ◌≤◌, map}
use Rattle.std.specs.List.{range_with_len}
use Rattle.roster_instance.specs.Limits.{most_states}
use Rattle.roster_instance.specs.Sizes.{greatest_of, state_count}
use Rattle.roster_offers.proofs.workspace.greatest_states.Given as goal

abbrev pub invariant-loop-nurse : goal.invariant-loop-nurse
invariant-loop-nurse l = record {
  so_far : l.greatest ≡ greatest_of (map (state_count l.case) (range_with_len 0 l.nurse));
  within : l.greatest ≤ most_states;
}
