use Rattle.std.proofs.Common.{◌∙◌, ◌<◌, Bool, arith, sym}
use Rattle.roster_instance.specs.declared.choice.Choice.{Choice}
use Rattle.roster_instance.specs.declared.choice.Choice.TheVariants.{Work}
use Rattle.roster_instance.specs.Meaning.{shift_at, skill_at, skill_count}
use Rattle.roster_rules.specs.HardRules.{may_take}
use Rattle.roster_offers.specs.declared.offer.Offer.{Offer}
use Rattle.roster_offers.specs.Offers.{offer_at, takes}
use Rattle.roster_offers.proofs.Among.{cheapest_begin, cheapest_skill, cheapest_skill_not, if_taken, none_taken}
use Rattle.roster_offers.proofs.day.cheapest_work.Goals as goal
use Rattle.roster_offers.proofs.day.cheapest_work.Goals.{then-able-skill, else-able-skill}

pub loop-skill-init : goal.loop-skill-init
loop-skill-init g c =
    let k = c.args.at.now.case.now in
    let n = c.args.at.now.nurse in
    let d = c.args.at.now.day in
    let can : Choice → Bool = takes k n (g.O.Offering.is_open c.args.by.now n) d in
    cheapest_begin k can (g.O.Offering.price c.args.by.now n) d c.args.shift

pub loop-skill-preserved : goal.loop-skill-preserved
loop-skill-preserved g c =
    let k = c.args.at.now.case.now in
    let n = c.args.at.now.nurse in
    let d = c.args.at.now.day in
    let is_open : Choice → Bool = g.O.Offering.is_open c.args.by.now n d in
    let can : Choice → Bool = takes k n (g.O.Offering.is_open c.args.by.now n) d in
    let by : Choice → Offer = offer_at (g.O.Offering.price c.args.by.now n) d in
    let shift = c.args.shift in
    let skill = c.loop-skill.skill in
    let work : Choice = Work (shift_at shift) (skill_at skill) in
    let inside : skill < skill_count k = omega (arith, c.loop-skill-test.true, c.skills-skill-end.ensures.count) in
    let able = c.requires.able skill inside in
    elim c.if-able-skill.branch [
      | then-able-skill w ↦ rw w.cheapest-is (cheapest_skill k can (g.O.Offering.price c.args.by.now n) d shift skill c.loop-skill.cheapest _ w.offer.result c.loop-skill.invariant
          (if_taken (may_take k n d work) (is_open work) (by work) w.offer.result (sym able ∙ w.if-able-skill.true) w.offer.ensures) w.cheaper_offer-cheapest.ensures)
      | else-able-skill w ↦ rw w.cheapest-is (cheapest_skill_not k can (g.O.Offering.price c.args.by.now n) d shift skill c.loop-skill.cheapest
          (none_taken (may_take k n d work) (is_open work) (sym able ∙ w.if-able-skill.false)) c.loop-skill.invariant)
    ]
