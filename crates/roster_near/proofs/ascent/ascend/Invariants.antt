use Rattle.std.proofs.Common.{◌≡◌}
use Rattle.roster_instance.specs.Meaning.{day_count}
use Rattle.roster_near.specs.Spending.{HasGoneOn}
use Rattle.roster_near.proofs.ascent.ascend.Given as goal

abbrev pub invariant-rounds : goal.invariant-rounds
invariant-rounds g l = record {
  gone : HasGoneOn l.task.base.now.case.now l.bounds l.fn.meter l.fn.budget.left l.meter l.budget.left;
  days : l.prices.days ≡ day_count l.task.base.now.case.now;
}
