use Rattle.roster_near.specs.Spending.{HasGoneOn}
use Rattle.roster_near.proofs.lists.list_within.Given as goal

abbrev pub invariant-halved : goal.invariant-halved
invariant-halved g l = HasGoneOn l.wanted.turn.task.now.base.now.case.now l.bounds l.fn.meter l.fn.budget.left l.meter l.budget.left
