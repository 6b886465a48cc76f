use Rattle.std.proofs.Common.{◌≡◌, ◌+◌, ◌-◌, ◌*◌, ◌<◌, ℕ, slice_index_or}
use Rattle.roster_state.specs.Codes.{code_of}
use Rattle.roster_tables.specs.OpenDays.{KeepsRest, PlacesKept}
use Rattle.roster_tables.proofs.labels.put_apart.Given as goal

abbrev pub invariant-strips : goal.invariant-strips
invariant-strips l = record {
  inside : (i b : ℕ) → i < l.strip → b < l.span.end - l.span.begin → slice_index_or l.pointers (l.day.first + code_of l.day.days.ranges l.span.block + l.span.begin + (i * l.day.days.ranges.assignments + b)) 0 ≡ slice_index_or l.numbers (i * l.day.days.ranges.assignments + b) 0;
  kept : PlacesKept l.day l.span (l.day.first + code_of l.day.days.ranges l.span.block) l.fn.pointers l.pointers;
  outside : KeepsRest (l.day.first + code_of l.day.days.ranges l.span.block) (l.span.strips * l.day.days.ranges.assignments) l.fn.pointers l.pointers;
}
