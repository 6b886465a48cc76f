-- What is kept is what the reader gave, and the vector has capacity for the rest of the limit.
use Rattle.std.proofs.Common.{◌≡◌, ◌≤◌, ◌+◌, ◌-◌, length, vec_len}
use Rattle.std.specs.Io.KnownBytes.{Consumes}
use Rattle.roster_bundle.specs.Limits.{most_bytes}
use Rattle.roster_text.proofs.reading.read_all.Given as goal

abbrev pub invariant-reading : goal.invariant-reading
invariant-reading g l = record {
  given : Consumes (g.R.Read.remaining l.initial.input.inner) (g.R.Read.remaining l.input.inner) l.bytes.items;
  kept : vec_len l.bytes ≤ most_bytes;
  failures : l.input.failures ≡ l.initial.input.failures;
  chunk : length l.chunk ≡ 65536;
}

abbrev pub decreases-reading : goal.decreases-reading
decreases-reading g l = most_bytes + 1 - vec_len l.bytes
