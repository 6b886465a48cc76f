use Rattle.std.proofs.Common.{◌∙◌, ◌<◌, ap, subst, sym}
use Rattle.roster_instance.specs.Meaning.{Meaning, day_count}
use Rattle.roster_row.proofs.search.offers_of_days.Goals as goal

pub put_offers-requires-clause-serves : goal.put_offers-requires-clause-serves
put_offers-requires-clause-serves g c = λ day within. (c.requires.nurse, subst (λ (m : Meaning). day < day_count m) c.case.ensures within)

pub returns-clause-offers : goal.returns-clause-offers
returns-clause-offers g c = record {
  days = c.put_offers.ensures.days ∙ ap day_count c.case.ensures;
  each = λ day within. c.put_offers.ensures.each day (subst (λ (m : Meaning). day < day_count m) (sym c.case.ensures) within);
}
