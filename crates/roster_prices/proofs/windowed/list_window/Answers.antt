use Rattle.roster_slots.specs.Tables.{slot_prices}
use Rattle.roster_prices.proofs.WindowRows.{can_search_window}
use Rattle.roster_prices.proofs.windowed.list_window.Goals as goal

pub put_offers-requires-clause-serves : goal.put_offers-requires-clause-serves
put_offers-requires-clause-serves g c = λ day within. (c.requires.nurse, within)

pub list_at-requires-clause-offers : goal.list_at-requires-clause-offers
list_at-requires-clause-offers g c =
    let t = c.args.terms.now in
    let b = t.base.now in
    can_search_window b.case.now b.scale (slot_prices b.scale t.dual_prices.now) t.node.now t.window b.from b.given.now c.args.nurse b.fits b.keeps c.requires.nurse c.put_offers.new.workspace.offers c.put_offers.ensures.days c.put_offers.ensures.each c.keeps_limits.ensures.small.keep
