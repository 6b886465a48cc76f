use Rattle.roster_bound.proofs.NodeLaws.{IsLeastSoFar}
use Rattle.roster_bound.proofs.nodes.Nodes.least.Given as goal

abbrev pub invariant-loop-at : goal.invariant-loop-at
invariant-loop-at l = IsLeastSoFar l.self.items.items l.least l.at
