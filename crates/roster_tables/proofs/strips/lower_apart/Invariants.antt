use Rattle.std.proofs.Common.{◌≡◌, ◌+◌, ◌*◌, ◌<◌, ◌≤◌, ℕ, min, slice_index_or}
use Rattle.roster_lanes.specs.Lanes.{pointer_by, raised}
use Rattle.roster_tables.specs.OpenDays.{KeepLengths}
use Rattle.roster_tables.specs.Strips.{BetweenStripsKept}
use Rattle.roster_tables.proofs.strips.lower_apart.Given as goal

abbrev pub invariant-strips : goal.invariant-strips
invariant-strips l = record {
  labels : (i b : ℕ) → i < l.strip → b < l.shape.width → slice_index_or l.labels (i * l.shape.stride + b) 0 ≡ min (slice_index_or l.fn.labels (i * l.shape.stride + b) 0) (raised l.others l.more (i * l.shape.stride + b));
  numbers : (i b : ℕ) → i < l.strip → b < l.shape.width
      → slice_index_or l.numbers (i * l.shape.stride + b) 0 ≡ pointer_by (slice_index_or l.fn.labels (i * l.shape.stride + b) 0) (raised l.others l.more (i * l.shape.stride + b)) (slice_index_or l.fn.numbers (i * l.shape.stride + b) 0) l.number;
  labels_rest : (j : ℕ) → l.strip * l.shape.stride ≤ j → slice_index_or l.labels j 0 ≡ slice_index_or l.fn.labels j 0;
  numbers_rest : (j : ℕ) → l.strip * l.shape.stride ≤ j → slice_index_or l.numbers j 0 ≡ slice_index_or l.fn.numbers j 0;
  between : BetweenStripsKept l.shape l.fn.labels l.labels;
  lengths : KeepLengths l.fn.labels l.labels l.fn.numbers l.numbers;
}
