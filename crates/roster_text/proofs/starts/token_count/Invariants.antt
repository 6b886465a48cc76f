use Rattle.std.proofs.Common.{◌≡◌, ◌*◌, ◌+◌}
use Rattle.roster_text.specs.Starts.{starts_in}
use Rattle.roster_text.proofs.starts.token_count.Given as goal

abbrev pub invariant-loop-vector : goal.invariant-loop-vector
invariant-loop-vector l = l.count ≡ starts_in l.text 0 (l.first + l.vector * 64)
