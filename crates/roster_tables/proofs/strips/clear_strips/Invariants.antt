use Rattle.std.proofs.Common.{◌≡◌, ◌+◌, ◌*◌, ◌<◌, ℕ, slice_index_or}
use Rattle.roster_offers.specs.Lists.{no_row}
use Rattle.roster_tables.specs.OpenDays.{KeepLengths}
use Rattle.roster_tables.specs.Strips.{BetweenStripsKept}
use Rattle.roster_tables.proofs.strips.clear_strips.Given as goal

abbrev pub invariant-strips : goal.invariant-strips
invariant-strips l = record {
  labels : (i b : ℕ) → i < l.strip → b < l.shape.width → slice_index_or l.labels (i * l.shape.stride + b) 0 ≡ no_row;
  numbers : (i b : ℕ) → i < l.strip → b < l.shape.width → slice_index_or l.numbers (i * l.shape.stride + b) 0 ≡ 0;
  between : BetweenStripsKept l.shape l.fn.labels l.labels;
  lengths : KeepLengths l.fn.labels l.labels l.fn.numbers l.numbers;
}
