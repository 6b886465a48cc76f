use Rattle.std.proofs.Common.{◌≡◌, ◌+◌, length}
use Rattle.roster_instance.specs.Limits.{most_shifts}
use Rattle.roster_row.specs.Recalled.{ArePrices}
use Rattle.roster_row.proofs.last.prices_by_shift.Given as goal

abbrev pub invariant-loop-offer : goal.invariant-loop-offer
invariant-loop-offer l = record {
  length : length l.prices ≡ 1 + most_shifts;
  prices : ArePrices l.offers l.prices;
}
