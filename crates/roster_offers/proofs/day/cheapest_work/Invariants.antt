use Rattle.std.proofs.Common.{◌≡◌}
use Rattle.std.specs.Option.{option_to_list}
use Rattle.roster_offers.specs.Offers.{cheapest_by_shift, offer_at, offers_among, takes, with_skills}
use Rattle.roster_offers.proofs.day.cheapest_work.Given as goal

abbrev pub invariant-loop-skill : goal.invariant-loop-skill
invariant-loop-skill g l = option_to_list l.cheapest ≡ cheapest_by_shift (offers_among (takes l.at.case.now l.at.nurse (g.O.Offering.is_open l.by l.at.nurse) l.at.day) (offer_at (g.O.Offering.price l.by l.at.nurse) l.at.day) (with_skills l.shift l.skill))
