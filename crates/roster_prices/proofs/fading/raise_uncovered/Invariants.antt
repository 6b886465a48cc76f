use Rattle.roster_prices.specs.Workspaces.{FitsBound}
use Rattle.roster_prices.proofs.fading.raise_uncovered.Given as goal

abbrev pub invariant-loop-slot : goal.invariant-loop-slot
invariant-loop-slot g l = FitsBound l.fn.case l.bounds
