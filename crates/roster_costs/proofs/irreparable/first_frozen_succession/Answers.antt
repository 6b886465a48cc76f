use Rattle.std.proofs.Common.{arith}
use Rattle.roster_rules.proofs.HardLemmas.{below_first}
use Rattle.roster_costs.proofs.irreparable.first_frozen_succession.Goals as goal

pub returns-in-Some : goal.returns-in-Some
returns-in-Some c = below_first _ _ c.loop-nurse.nurse c.in-Some.fault (omega arith) c.loop-nurse.invariant c.in-Some.ensures
