use Rattle.std.proofs.Common.{arith}
use Rattle.roster_laws.proofs.GreatestLemmas.{greatest_extensions}
use Rattle.roster_rounds.proofs.Counts.{few_extensions}
use Rattle.roster_rounds.proofs.room.extensions_are_few.Goals as goal

pub returns : goal.returns
returns c =
    let greatest = greatest_extensions c.args.case.now (omega (arith, c.nurses.ensures)) in
    let sizes = c.keeps_sizes.ensures in
    omega (arith, greatest.reached, few_extensions c.args.case.now greatest.nurse greatest.inside c.keeps_limits.ensures.weeks sizes.states sizes.choices)
