use Rattle.std.proofs.Common.{arith}
use Rattle.roster_tables.specs.Halves.{low}
use Rattle.roster_tables.proofs.HalfLaws.{halves_kept}
use Rattle.roster_tables.proofs.pointers.set_high.Goals as goal

pub returns-clause-low : goal.returns-clause-low
returns-clause-low c = halves_kept low c.args.bytes.now c.loop-i.bytes (omega arith) c.loop-i.invariant.left
