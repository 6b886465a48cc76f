use Rattle.roster_case.proofs.DayTableLemmas.{shortfall_of_work}
use Rattle.roster_case.proofs.recount.is_short.Goals as goal

pub returns-in-Work : goal.returns-in-Work
returns-in-Work c =
    shortfall_of_work c.args.case.now c.keeps_limits.ensures.shifts c.keeps_limits.ensures.skills c.args.day c.args.table.now c.args.choice c.requires c.in-Work.shift c.in-Work.skill c.in-Work.is c.slot.result c.slot.ensures.slot c.need.result c.need.ensures.limits
