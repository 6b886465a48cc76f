use Rattle.std.proofs.Common.{◌≡◌}
use Rattle.roster_instance.specs.Meaning.{day_count}
use Rattle.roster_near.specs.Spending.{HasGoneOn}
use Rattle.roster_near.proofs.ascent.search_round.Given as goal

abbrev pub invariant-loop-free : goal.invariant-loop-free
invariant-loop-free g l = record {
  gone : HasGoneOn l.task.base.now.case.now l.bounds l.fn.meter l.fn.budget.left l.meter l.budget.left;
  days : l.prices.days ≡ day_count l.task.base.now.case.now;
}
