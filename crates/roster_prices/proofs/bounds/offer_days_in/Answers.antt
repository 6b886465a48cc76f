use Rattle.roster_prices.proofs.bounds.offer_days_in.Goals as goal

pub put_offers-requires-clause-serves : goal.put_offers-requires-clause-serves
put_offers-requires-clause-serves g c = λ day within. (c.requires.nurse, within)

pub returns-clause-offers : goal.returns-clause-offers
returns-clause-offers g c = record { days = c.put_offers.ensures.days; each = c.put_offers.ensures.each }
