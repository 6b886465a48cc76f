use Rattle.std.proofs.Common.{◌≡◌, length}
use Rattle.roster_near.proofs.live.Live.restore.Given as goal

abbrev pub invariant-loop-free : goal.invariant-loop-free
invariant-loop-free l = length l.self.counts.items ≡ length l.initial.self.counts.items
