use Rattle.roster_state.proofs.SumLaw.{end_closes}
use Rattle.roster_state.proofs.transition.end_cost.Goals as goal

pub returns-clause-closes : goal.returns-clause-closes
returns-clause-closes c days is = end_closes c.args.case.now c.args.nurse c.args.state days is _ c.missing_cost.ensures.cost
