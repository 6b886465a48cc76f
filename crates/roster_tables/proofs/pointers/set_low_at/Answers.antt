use Rattle.std.proofs.Common.{◌≡◌, ◌+◌, ◌-◌, ap, arith, length}
use Rattle.std.proofs.lemmas.List.{length-map}
use Rattle.roster_tables.specs.Halves.{low}
use Rattle.roster_tables.proofs.HalfLaws.{low_written}
use Rattle.roster_tables.proofs.pointers.set_low_at.Goals as goal

pub returns : goal.returns
returns c =
    let first = c.args.first in
    let run = c.args.run.now in
    let part = c.set_low.new.bytes in
    let long : length part ≡ length run = omega (arith, length-map part low, ap length c.set_low.ensures.low) in
    low_written first c.args.bytes.now part run long c.requires.within (first + length run - first) (omega (arith, long)) c.set_low.ensures.low c.set_low.ensures.high
