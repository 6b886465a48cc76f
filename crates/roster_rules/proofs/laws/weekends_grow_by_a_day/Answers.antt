use Rattle.roster_rules.proofs.WeekendLaw.{worked_grow, weekends_grow, splits_grow}
use Rattle.roster_rules.proofs.laws.weekends_grow_by_a_day.Goals as goal

pub returns-clause-worked : goal.returns-clause-worked
returns-clause-worked c = worked_grow

pub returns-clause-weekends : goal.returns-clause-weekends
returns-clause-weekends c = weekends_grow

pub returns-clause-split : goal.returns-clause-split
returns-clause-split c = splits_grow
