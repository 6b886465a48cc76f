use Rattle.std.proofs.Common.{◌≡◌, ◌*◌, ◌≤◌}
use Rattle.roster_instance.specs.Counting.{sum_below}
use Rattle.roster_instance.specs.Meaning.{skill_count}
use Rattle.roster_slots.specs.Tables.{slot_prices}
use Rattle.roster_slots.specs.Slots.{most_slot_cost, slot_bound}
use Rattle.roster_slots.proofs.slots.day_bound.Given as goal

abbrev pub invariant-loop-shift : goal.invariant-loop-shift
invariant-loop-shift l = record {
  so_far : l.bound ≡ sum_below l.shift (λ s. sum_below (skill_count l.case) (slot_bound l.case l.scale (slot_prices l.scale l.dual_prices) l.day s));
  within : l.bound ≤ l.shift * (8 * most_slot_cost);
}
