use Rattle.std.proofs.Common.{◌≡◌, ◌+◌, ◌*◌, ◌≤◌}
use Rattle.roster_instance.specs.Meaning.{day_count, nurse_count}
use Rattle.roster_timer.specs.Deadlines.{IsLater, time_of}
use Rattle.roster_laws.specs.Greatest.{extensions_in}
use Rattle.roster_bound.specs.Branching.{IsPriced}
use Rattle.roster_prices.specs.Nodes.{IsLowerBoundIn}
use Rattle.roster_prices.specs.Workspaces.{FitsBound}
use Rattle.roster_bound.proofs.tree.raise_node.Given as goal

abbrev pub invariant-loop-made : goal.invariant-loop-made
invariant-loop-made g l = record {
  decisions : l.node.decisions ≡ l.fn.node.decisions;
  below : IsLowerBoundIn l.upper.base.now.case.now l.upper.base.now.from l.upper.base.now.given.now l.node.decisions.items l.node.bound;
  priced : IsPriced l.upper.base.now.case.now l.upper.base.now.from l.upper.base.now.given.now l.node;
  rises : l.fn.node.bound ≤ l.node.bound;
  fits : FitsBound l.upper.base.now.case.now l.bounds;
  later : IsLater (time_of l.fn.deadline) (time_of l.deadline);
  none : l.made ≡ 0 → l.node.bound ≡ l.fn.node.bound;
  made : l.fn.meter + l.made * (nurse_count l.upper.base.now.case.now * day_count l.upper.base.now.case.now) ≤ l.meter;
  counted : l.meter ≤ l.fn.meter + extensions_in l.upper.base.now.case.now l.made;
}
