use Rattle.std.proofs.Common.{◌≡◌, map, take}
use Rattle.roster_instance.specs.Sizes.{greatest_of, cap}
use Rattle.roster_instance.proofs.sizes.greatest_cap.Given as goal

abbrev pub invariant-loop-run : goal.invariant-loop-run
invariant-loop-run l = l.greatest ≡ greatest_of (map cap (take l.run-index l.runs))
