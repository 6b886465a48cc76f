use Rattle.std.proofs.lemmas.Simd.{get_or-chunk}
use Rattle.roster_lanes.specs.declared.lower.TheConstants.{LANES}
use Rattle.roster_lanes.proofs.lower.load.Goals as goal

pub returns : goal.returns
returns c i lt = get_or-chunk c.args.first LANES c.args.numbers.now i 0 lt
