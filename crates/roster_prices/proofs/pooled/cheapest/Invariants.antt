use Rattle.std.proofs.Common.{◌<◌, length}
use Rattle.std.specs.Prelude.{IfSome}
use Rattle.roster_prices.specs.declared.pooled.CheapestRow.{CheapestRow}
use Rattle.roster_prices.proofs.pooled.cheapest.Given as goal

abbrev pub invariant-loop-at : goal.invariant-loop-at
invariant-loop-at l = IfSome l.cheapest (λ (pooled : CheapestRow). pooled.at < length l.pool.entries.items)
