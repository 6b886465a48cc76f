use Rattle.std.proofs.Common.{◌≡◌, ◌^◌, ◌≤◌, fold, max, take}
use Rattle.roster_row.specs.Recalled.{gain_over}
use Rattle.roster_row.proofs.last.LastSearches.most_gain.Given as goal

abbrev pub invariant-loop-offer : goal.invariant-loop-offer
invariant-loop-offer l = record {
  most : l.most ≡ fold (λ most offer. max most (gain_over l.prices l.present offer)) 0 (take l.offer-index l.offers);
  within : l.most ≤ 2 ^ 33;
}
