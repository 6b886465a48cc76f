use Rattle.std.proofs.Common.{◌≡◌}
use Rattle.roster_instance.specs.Counting.{sum_below}
use Rattle.roster_state.specs.Boxes.{box_at}
use Rattle.roster_tables.specs.Counts.{states_in}
use Rattle.roster_tables.proofs.extensions.states_in_boxes.Given as goal

abbrev pub invariant-loop-last : goal.invariant-loop-last
invariant-loop-last l = l.states ≡ sum_below l.last (λ last. states_in l.ranges (box_at l.boxes last))
