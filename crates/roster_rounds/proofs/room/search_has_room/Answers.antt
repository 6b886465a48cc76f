use Rattle.std.proofs.Common.{arith}
use Rattle.roster_laws.proofs.GreatestLemmas.{greatest_extensions}
use Rattle.roster_rounds.proofs.room.search_has_room.Goals as goal

pub returns : goal.returns
returns c = omega (arith, (greatest_extensions c.args.case.now (omega (arith, c.requires))).above c.args.nurse c.requires, c.extensions_are_few.ensures)
