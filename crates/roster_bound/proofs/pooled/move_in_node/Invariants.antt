use Rattle.roster_prices.specs.Workspaces.{FitsBound}
use Rattle.roster_bound.proofs.pooled.move_in_node.Given as goal

abbrev pub invariant-loop-made : goal.invariant-loop-made
invariant-loop-made g l = FitsBound l.case l.bounds
