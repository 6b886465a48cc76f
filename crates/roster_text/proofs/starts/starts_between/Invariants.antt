use Rattle.std.proofs.Common.{◌≡◌, ◌-◌}
use Rattle.roster_text.specs.Starts.{starts_in}
use Rattle.roster_text.proofs.starts.starts_between.Given as goal

abbrev pub invariant-loop-at : goal.invariant-loop-at
invariant-loop-at l = l.count ≡ starts_in l.text l.from (l.at - l.from)
