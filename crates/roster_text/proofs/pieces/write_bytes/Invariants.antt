-- The first `sent` bytes are written, and each turn writes more.
use Rattle.std.proofs.Common.{◌≤◌, ◌-◌, length, take}
use Rattle.roster_text.specs.Io.{Writes}
use Rattle.roster_text.proofs.pieces.write_bytes.Given as goal

abbrev pub invariant-loop-sent : goal.invariant-loop-sent
invariant-loop-sent g l = record {
  within : l.sent ≤ length l.bytes;
  written : Writes g.W.Write.contents l.initial.out l.out (take l.sent l.bytes);
}

abbrev pub decreases-loop-sent : goal.decreases-loop-sent
decreases-loop-sent g l = length l.bytes - l.sent
