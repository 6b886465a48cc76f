use Rattle.roster_prices.specs.Workspaces.{FitsBound}
use Rattle.roster_prices.proofs.fading.count_rows.Given as goal

abbrev pub invariant-loop-nurse : goal.invariant-loop-nurse
invariant-loop-nurse g l = FitsBound l.fn.case l.bounds
