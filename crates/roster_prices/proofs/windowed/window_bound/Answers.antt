use Rattle.roster_slots.specs.Tables.{slot_prices}
use Rattle.roster_prices.proofs.WindowRows.{can_search_window, some_window}
use Rattle.roster_prices.proofs.windowed.window_bound.Goals as goal

pub put_offers-requires-clause-serves : goal.put_offers-requires-clause-serves
put_offers-requires-clause-serves g c = λ day within. (c.requires.nurse, within)

pub search_at-cost-requires-clause-offers : goal.search_at-cost-requires-clause-offers
search_at-cost-requires-clause-offers g c =
    let t = c.args.terms.now in
    let b = t.base.now in
    can_search_window b.case.now b.scale (slot_prices b.scale t.dual_prices.now) t.node.now t.window b.from b.given.now c.args.nurse b.fits b.keeps c.requires.nurse c.put_offers.new.workspace.offers c.put_offers.ensures.days c.put_offers.ensures.each c.keeps_limits.ensures.small.keep

pub search_at-cost-requires-clause-some : goal.search_at-cost-requires-clause-some
search_at-cost-requires-clause-some g c =
    let t = c.args.terms.now in
    let b = t.base.now in
    some_window b.case.now b.scale (slot_prices b.scale t.dual_prices.now) t.node.now t.window b.from b.given.now c.args.nurse b.fits b.keeps c.requires.nurse c.put_offers.new.workspace.offers c.put_offers.ensures.days c.put_offers.ensures.each
