use Rattle.std.proofs.Common.{arith}
use Rattle.roster_tables.specs.Halves.{high}
use Rattle.roster_tables.proofs.HalfLaws.{halves_kept}
use Rattle.roster_tables.proofs.pointers.set_low.Goals as goal

pub returns-clause-high : goal.returns-clause-high
returns-clause-high c = halves_kept high c.args.bytes.now c.loop-i.bytes (omega arith) c.loop-i.invariant.left
