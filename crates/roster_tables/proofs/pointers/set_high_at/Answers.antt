use Rattle.std.proofs.Common.{◌≡◌, ◌+◌, ◌-◌, ap, arith, length}
use Rattle.std.proofs.lemmas.List.{length-map}
use Rattle.roster_tables.specs.Halves.{high}
use Rattle.roster_tables.proofs.HalfLaws.{high_written}
use Rattle.roster_tables.proofs.pointers.set_high_at.Goals as goal

pub returns : goal.returns
returns c =
    let first = c.args.first in
    let run = c.args.run.now in
    let part = c.set_high.new.bytes in
    let long : length part ≡ length run = omega (arith, length-map part high, ap length c.set_high.ensures.high) in
    high_written first c.args.bytes.now part run long c.requires.within (first + length run - first) (omega (arith, long)) c.set_high.ensures.high c.set_high.ensures.low
