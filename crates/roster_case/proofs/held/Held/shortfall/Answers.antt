use Rattle.std.proofs.Common.{◌<◌, ap, arith}
use Rattle.roster_instance.specs.Meaning.{day_count}
use Rattle.roster_instance.specs.Rosters.{cover}
use Rattle.roster_case.specs.Held.{HeldRoster}
use Rattle.roster_case.proofs.RecountLemmas.{shortfall_within}
use Rattle.roster_case.proofs.held.Held.shortfall.Goals as goal

pub returns-clause-within : goal.returns-clause-within
returns-clause-within c =
    let case = c.self.inside.case in
    let inside : c.args.day < day_count case = omega (arith, c.requires, ap (λ (h : HeldRoster). day_count h.case) c.self.view_is) in
    omega (arith, c.shortfall.ensures, (c.self.invariant.counted.counted c.args.day inside).is_short, shortfall_within case c.args.day (cover c.self.inside.roster c.args.day) c.keeps_limits.ensures.small c.keeps_limits.ensures.shifts c.keeps_limits.ensures.skills)
