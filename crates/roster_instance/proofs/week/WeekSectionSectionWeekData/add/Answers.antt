use Rattle.std.proofs.Common.{rules}
use Rattle.roster_instance.proofs.Sections.{built_more}
use Rattle.roster_instance.proofs.week.WeekSectionSectionWeekData.add.Goals as goal

pub returns-clause-built : goal.returns-clause-built
returns-clause-built c = λ earlier b. built_more _ earlier c.args.week.now _ _ _ b c.in_ok-push.ensures.items (search rules)
