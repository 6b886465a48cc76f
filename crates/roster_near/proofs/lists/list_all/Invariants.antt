use Rattle.roster_near.specs.Spending.{HasGoneOn}
use Rattle.roster_near.proofs.lists.list_all.Given as goal

abbrev pub invariant-loop-free : goal.invariant-loop-free
invariant-loop-free g l = HasGoneOn l.gap.task.now.base.now.case.now l.bounds l.fn.meter l.fn.budget.left l.meter l.budget.left
