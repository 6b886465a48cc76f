use Rattle.std.proofs.Common.{◌≡◌, length}
use Rattle.roster_prices.proofs.pooled.count_cheapest.Given as goal

abbrev pub invariant-loop-nurse : goal.invariant-loop-nurse
invariant-loop-nurse l = length l.cover ≡ length l.fn.cover
