use Rattle.std.proofs.Common.{◌≡◌, length}
use Rattle.roster_polish.proofs.kick.raise.Given as goal

abbrev pub invariant-loop-position : goal.invariant-loop-position
invariant-loop-position l = length l.dearer ≡ length l.fn.dearer
