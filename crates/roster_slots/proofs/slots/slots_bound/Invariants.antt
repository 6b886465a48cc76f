use Rattle.std.proofs.Common.{◌≡◌, ◌*◌, ◌≤◌}
use Rattle.roster_instance.specs.Counting.{sum_below}
use Rattle.roster_instance.specs.Meaning.{shift_count, skill_count}
use Rattle.roster_slots.specs.Tables.{slot_prices}
use Rattle.roster_slots.specs.Slots.{most_slot_cost, slot_bound}
use Rattle.roster_slots.proofs.slots.slots_bound.Given as goal

abbrev pub invariant-loop-day : goal.invariant-loop-day
invariant-loop-day l = record {
  so_far : l.bound ≡ sum_below l.day (λ d. sum_below (shift_count l.case) (λ s. sum_below (skill_count l.case) (slot_bound l.case l.scale (slot_prices l.scale l.dual_prices) d s)));
  within : l.bound ≤ l.day * (64 * most_slot_cost);
}
