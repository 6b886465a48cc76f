use Rattle.std.proofs.Common.{◌≡◌, ◌∙◌, ◌<◌, ◌++◌, Bool, ap, arith, length, sym}
use Rattle.std.specs.Option.{option_to_list}
use Rattle.roster_instance.specs.declared.choice.Choice.{Choice}
use Rattle.roster_instance.specs.declared.choice.Choice.TheVariants.{Work}
use Rattle.roster_instance.specs.Meaning.{shift_at, shift_count, skill_at, skill_count}
use Rattle.roster_rules.specs.HardRules.{may_take}
use Rattle.roster_offers.specs.declared.offer.Offer.{Offer}
use Rattle.roster_offers.specs.Offers.{offer_at, offers_among, takes}
use Rattle.roster_offers.proofs.Among.{if_taken, none_taken, of_shifts, offers_begin, offers_shift, offers_skill, offers_skill_not}
use Rattle.roster_offers.proofs.day.offers_of_choices.Goals as goal
use Rattle.roster_offers.proofs.day.offers_of_choices.Goals.{then-able-skill, else-able-skill}

pub loop-shift-init : goal.loop-shift-init
loop-shift-init g c =
    let k = c.args.at.now.case.now in
    let n = c.args.at.now.nurse in
    let d = c.args.at.now.day in
    let can : Choice → Bool = takes k n (g.O.Offering.is_open c.args.by.now n) d in
    let by : Choice → Offer = offer_at (g.O.Offering.price c.args.by.now n) d in
    record {
      so_far = offers_begin k can by _ c.offer.result (c.push_some.ensures.items ∙ ap (λ xs. xs ++ option_to_list c.offer.result) c.new-offers.ensures) c.offer.ensures;
      few = omega (arith, c.push_some.ensures.few, ap length c.new-offers.ensures);
    }

pub loop-shift-preserved : goal.loop-shift-preserved
loop-shift-preserved g c =
    let k = c.args.at.now.case.now in
    let n = c.args.at.now.nurse in
    let d = c.args.at.now.day in
    let can : Choice → Bool = takes k n (g.O.Offering.is_open c.args.by.now n) d in
    let by : Choice → Offer = offer_at (g.O.Offering.price c.args.by.now n) d in
    let all : c.loop-skill.skill ≡ skill_count k = omega arith in
    record {
      so_far = offers_shift k can by c.loop-shift.offers.items c.loop-skill.offers.items c.loop-shift.shift c.loop-skill.skill all c.loop-shift.invariant.so_far c.loop-skill.invariant.so_far;
      few = omega (arith, c.loop-skill.invariant.few, c.loop-shift.invariant.few, c.keeps_limits.ensures.skills);
    }

pub returns-clause-offers : goal.returns-clause-offers
returns-clause-offers g c =
    let k = c.args.at.now.case.now in
    let n = c.args.at.now.nurse in
    let d = c.args.at.now.day in
    let can : Choice → Bool = takes k n (g.O.Offering.is_open c.args.by.now n) d in
    let by : Choice → Offer = offer_at (g.O.Offering.price c.args.by.now n) d in
    let all : c.loop-shift.shift ≡ shift_count k = omega arith in
    c.loop-shift.invariant.so_far ∙ ap (λ m. offers_among can by (of_shifts k m)) all

pub loop-skill-preserved : goal.loop-skill-preserved
loop-skill-preserved g c =
    let k = c.args.at.now.case.now in
    let n = c.args.at.now.nurse in
    let d = c.args.at.now.day in
    let is_open : Choice → Bool = g.O.Offering.is_open c.args.by.now n d in
    let can : Choice → Bool = takes k n (g.O.Offering.is_open c.args.by.now n) d in
    let by : Choice → Offer = offer_at (g.O.Offering.price c.args.by.now n) d in
    let shift = c.loop-shift.shift in
    let skill = c.loop-skill.skill in
    let work : Choice = Work (shift_at shift) (skill_at skill) in
    let inside : skill < skill_count k = omega (arith, c.loop-skill-test.true, c.skills-skill-end.ensures.count) in
    let able = c.able_by_skill-able.ensures skill inside in
    let start = c.loop-shift.offers.items in
    let old = c.loop-skill.offers.items in
    let before = c.loop-skill.invariant in
    elim c.if-able-skill.branch [
      | then-able-skill w ↦ rw w.offers-is (record {
        so_far = offers_skill k can by start old _ shift skill w.offer-then-able-skill.result before.so_far w.push_some-then-able-skill.ensures.items
            (if_taken (may_take k n d work) (is_open work) (by work) w.offer-then-able-skill.result (sym able ∙ w.if-able-skill.true) w.offer-then-able-skill.ensures);
        few = omega (arith, before.few, w.push_some-then-able-skill.ensures.few);
      })
      | else-able-skill w ↦ rw w.offers-is (record {
        so_far = offers_skill_not k can by start old shift skill (none_taken (may_take k n d work) (is_open work) (sym able ∙ w.if-able-skill.false)) before.so_far;
        few = omega (arith, before.few);
      })
    ]
