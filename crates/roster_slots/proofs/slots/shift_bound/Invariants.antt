use Rattle.std.proofs.Common.{◌≡◌, ◌*◌, ◌≤◌}
use Rattle.roster_instance.specs.Counting.{sum_below}
use Rattle.roster_slots.specs.Tables.{slot_prices}
use Rattle.roster_slots.specs.Slots.{most_slot_cost, slot_bound}
use Rattle.roster_slots.proofs.slots.shift_bound.Given as goal

abbrev pub invariant-loop-skill : goal.invariant-loop-skill
invariant-loop-skill l = record {
  so_far : l.bound ≡ sum_below l.skill (slot_bound l.case l.scale (slot_prices l.scale l.dual_prices) l.day l.shift);
  within : l.bound ≤ l.skill * most_slot_cost;
}
