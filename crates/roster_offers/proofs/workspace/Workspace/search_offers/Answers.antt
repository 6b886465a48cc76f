use Rattle.std.proofs.Common.{IsSome, List, subst, sym}
use Rattle.roster_offers.specs.Cheapest.{Priced}
use Rattle.roster_offers.specs.Lists.{IsFound, offers_on}
use Rattle.roster_offers.specs.declared.offer.Offer.{Offer}
use Rattle.roster_offers.proofs.AtOne.{best_over_one}
use Rattle.roster_offers.proofs.ScaleLaws.{one_is_scale}
use Rattle.roster_offers.proofs.workspace.Workspace.search_offers.Goals as goal

pub search_at-requires-clause-scale : goal.search_at-requires-clause-scale
search_at-requires-clause-scale g c = one_is_scale c.args.case.now c.keeps_limits.ensures.weeks

pub search_at-requires-clause-some : goal.search_at-requires-clause-some
search_at-requires-clause-some g c = subst (λ (best : Priced (List Offer)). IsSome best) (sym (best_over_one c.args.case.now c.args.nurse (offers_on c.args.self.now.offers))) c.requires.some

pub returns-clause-best : goal.returns-clause-best
returns-clause-best g c =
    subst (λ (best : Priced (List Offer)). IsFound best c.search_at.result c.search_at.new.self.row) (best_over_one c.args.case.now c.args.nurse (offers_on c.args.self.now.offers)) c.search_at.ensures.best
