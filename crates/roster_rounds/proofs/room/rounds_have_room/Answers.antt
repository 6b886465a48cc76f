use Rattle.std.proofs.Common.{arith}
use Rattle.roster_rounds.proofs.Counts.{few_in_all}
use Rattle.roster_rounds.proofs.room.rounds_have_room.Goals as goal

pub returns : goal.returns
returns c = omega (arith, few_in_all c.args.case.now c.args.rounds 65535 (omega arith) c.keeps_limits.ensures.nurses c.extensions_are_few.ensures)
