use Rattle.std.proofs.Common.{◌≡◌, length}
use Rattle.roster_near.proofs.draws.Draws.begin.Given as goal

abbrev pub invariant-loop-nurse : goal.invariant-loop-nurse
invariant-loop-nurse l = length l.self.skills.items ≡ length l.initial.self.skills.items
