-- The branchings so far are made: the nodes contain all rosters, and the lines so far are sent. The least bound
-- is no greater than the one that was reached.
use Rattle.std.proofs.Common.{◌≡◌, ◌+◌, ◌*◌, ◌≤◌, length}
use Rattle.roster_laws.specs.Greatest.{extensions_in}
use Rattle.roster_bound.specs.BoundLogs.{node_rounds}
use Rattle.roster_bound.specs.Branching.{AreNodesOf}
use Rattle.roster_bound.specs.Branchings.{ReachesLeast}
use Rattle.roster_bound.specs.NodeCapacity.{nodes_capacity}
use Rattle.roster_prices.specs.Workspaces.{FitsBound}
use Rattle.roster_prices.specs.LowerBounds.{IsLowerBound}
use Rattle.roster_timer.specs.Deadlines.{time_of}
use Rattle.roster_bound.proofs.BranchingLaws.{AreBranched}
use Rattle.roster_bound.proofs.rounds.raise_below.Given as goal

abbrev pub invariant-loop-branched : goal.invariant-loop-branched
invariant-loop-branched g l = record {
  branched : AreBranched g.W.Write.contents l.top.base.now.case.now l.top.base.now.from l.top.base.now.given.now l.effort.rounds l.branched l.fn.meter l.meter l.fn.log l.log (time_of l.deadline) l.reached;
  below : IsLowerBound l.top.base.now.case.now l.top.base.now.from l.top.base.now.given.now l.reached.bound;
  nodes : AreNodesOf l.top.base.now.case.now l.top.base.now.from l.top.base.now.given.now l.space.nodes.items.items;
  least : ReachesLeast l.space.nodes.items.items l.reached.bound;
  few : length l.space.nodes.items.items ≤ l.branched + 1;
  same_nodes : nodes_capacity l.space.nodes ≡ nodes_capacity l.fn.space.nodes;
  ends : l.deadline.ends ≡ l.fn.deadline.ends;
  counted : l.meter ≤ l.fn.meter + extensions_in l.top.base.now.case.now (l.effort.rounds + l.branched * (2 * node_rounds));
  fits : FitsBound l.top.base.now.case.now l.space.bounds;
}
