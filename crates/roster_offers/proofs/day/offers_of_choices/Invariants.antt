use Rattle.std.proofs.Common.{◌≡◌, ◌*◌, ◌+◌, ◌≤◌, ◌++◌, length}
use Rattle.roster_offers.specs.Offers.{offer_at, offers_among, takes, with_skills}
use Rattle.roster_offers.proofs.Among.{of_shifts}
use Rattle.roster_offers.proofs.day.offers_of_choices.Given as goal

abbrev pub invariant-loop-shift : goal.invariant-loop-shift
invariant-loop-shift g l = record {
  so_far : l.offers.items ≡ offers_among (takes l.at.case.now l.at.nurse (g.O.Offering.is_open l.by l.at.nurse) l.at.day) (offer_at (g.O.Offering.price l.by l.at.nurse) l.at.day) (of_shifts l.at.case.now l.shift);
  few : length l.offers.items ≤ 1 + 8 * l.shift;
}

abbrev pub invariant-loop-skill : goal.invariant-loop-skill
invariant-loop-skill g l = record {
  so_far : l.offers.items ≡ l.initial.offers.items ++ offers_among (takes l.at.case.now l.at.nurse (g.O.Offering.is_open l.by l.at.nurse) l.at.day) (offer_at (g.O.Offering.price l.by l.at.nurse) l.at.day) (with_skills l.shift l.skill);
  few : length l.offers.items ≤ length l.initial.offers.items + l.skill;
}
