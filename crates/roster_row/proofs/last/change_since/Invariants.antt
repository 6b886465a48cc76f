use Rattle.std.proofs.Common.{ℕ, ◌<◌, slice_index_or}
use Rattle.roster_offers.specs.declared.offer.Offer.{Offer}
use Rattle.roster_row.specs.Recalled.{IsDearer}
use Rattle.roster_row.proofs.last.change_since.Given as goal

abbrev pub invariant-loop-offer : goal.invariant-loop-offer
invariant-loop-offer l = (k : ℕ) (d : Offer) → k < l.offer-index → IsDearer l.prices l.rise l.fall (slice_index_or l.offers k d)
