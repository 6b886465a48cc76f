use Rattle.std.proofs.Common.{◌≤◌, IfSome, List, subst, sym}
use Rattle.roster_offers.specs.Cheapest.{Priced}
use Rattle.roster_offers.specs.declared.offer.Offer.{Offer}
use Rattle.roster_offers.specs.Lists.{most_label_unkept}
use Rattle.roster_offers.specs.Offers.{offers_of}
use Rattle.roster_offers.proofs.ByShift.{best_by_shift}
use Rattle.roster_offers.proofs.LowRows.{label_low, label_unkept}
use Rattle.roster_offers.proofs.OfferLaws.{offers_unkept}
use Rattle.roster_offers.proofs.laws.labels_are_low.Goals as goal

pub returns-clause-all : goal.returns-clause-all
returns-clause-all g c small n offers of_case m d few s = label_low c small n offers of_case m d few s

pub returns-clause-unkept : goal.returns-clause-unkept
returns-clause-unkept g c small none from r n m d few s =
    let offers = offers_of c from r n in
    subst (λ (best : Priced (List Offer)). IfSome best (λ label. label.0 ≤ most_label_unkept)) (sym (best_by_shift c n offers m d s))
    (label_unkept c small.numbers n offers (λ day. offers_unkept c from r n day small.numbers small.shifts small.skills none) m d few s)
