use Rattle.roster_near.specs.Spending.{HasGoneOn}
use Rattle.roster_near.proofs.excess.weigh_if_due.Given as goal

abbrev pub invariant-loop-nurse : goal.invariant-loop-nurse
invariant-loop-nurse g l = HasGoneOn l.base.case.now l.bounds l.fn.meter l.fn.budget.left l.meter l.budget.left
