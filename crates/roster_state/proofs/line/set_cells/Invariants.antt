use Rattle.roster_state.proofs.CompletionLines.{AreCells}
use Rattle.roster_state.proofs.line.set_cells.Given as goal

abbrev pub invariant-open : goal.invariant-open
invariant-open l = AreCells l.fn.costs l.after l.place l.here

abbrev pub invariant-full : goal.invariant-full
invariant-full l = AreCells l.fn.costs l.after l.place l.here
