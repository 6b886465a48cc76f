use Rattle.std.proofs.Common.{◌≡◌, length}
use Rattle.roster_near.proofs.space.NearSpace.read_listed.Given as goal

abbrev pub invariant-loop-day : goal.invariant-loop-day
invariant-loop-day l = length l.self.row.items ≡ length l.initial.self.row.items
