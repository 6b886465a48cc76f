use Rattle.roster_prices.specs.Workspaces.{FitsBound}
use Rattle.roster_prices.proofs.moving.move_by_pooled_rows.Given as goal

abbrev pub invariant-loop-made : goal.invariant-loop-made
invariant-loop-made g l = FitsBound l.case l.workspace
