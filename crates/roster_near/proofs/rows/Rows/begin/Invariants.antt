use Rattle.std.proofs.Common.{◌≡◌, length}
use Rattle.roster_near.proofs.rows.Rows.begin.Given as goal

abbrev pub invariant-loop-free : goal.invariant-loop-free
invariant-loop-free l = length l.self.spans.items ≡ length l.initial.self.spans.items
