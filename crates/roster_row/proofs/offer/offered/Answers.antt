use Rattle.std.proofs.Common.{◌∙◌}
use Rattle.roster_row.proofs.OfferLemmas.{offer_is}
use Rattle.roster_row.proofs.offer.offered.Goals as goal

pub returns : goal.returns
returns c =
    c.offer_if.ensures
    ∙ offer_is c.args.held.now.case c.args.held.now.roster c.args.nurse c.args.day c.args.choice c.shortfall_by-lack.result.minimum c.shortfall_by-lack.result.optimum c.args.asked c.shortfall_by-lack.ensures.minimum c.shortfall_by-lack.ensures.optimum c.requires.asked
