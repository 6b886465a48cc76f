use Rattle.roster_completion.specs.Lines.{IsAfterOffTo}
use Rattle.roster_completion.proofs.off.after_off.Given as goal

abbrev pub invariant-loop-index : goal.invariant-loop-index
invariant-loop-index l = IsAfterOffTo l.day l.index l.after
