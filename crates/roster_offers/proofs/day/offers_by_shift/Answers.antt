use Rattle.std.proofs.Common.{◌≡◌, ◌∙◌, ◌++◌, Bool, ap, ap₂, arith, length, sym}
use Rattle.std.specs.Option.{option_to_list}
use Rattle.roster_instance.specs.declared.choice.Choice.{Choice}
use Rattle.roster_instance.specs.Meaning.{shift_count}
use Rattle.roster_offers.specs.Offers.{cheapest_by_shift, offer_at, offers_among, takes}
use Rattle.roster_offers.proofs.Among.{by_shift_begin, by_shift_more_shift, of_shifts}
use Rattle.roster_offers.proofs.day.offers_by_shift.Goals as goal

pub loop-shift-init : goal.loop-shift-init
loop-shift-init g c =
    let k = c.args.at.now.case.now in
    let n = c.args.at.now.nurse in
    let d = c.args.at.now.day in
    let can : Choice → Bool = takes k n (g.O.Offering.is_open c.args.by.now n) d in
    record {
      so_far = by_shift_begin k can (g.O.Offering.price c.args.by.now n) d _ c.offer.result (c.push_some.ensures.items ∙ ap (λ xs. xs ++ option_to_list c.offer.result) c.new-offers.ensures) c.offer.ensures;
      few = omega (arith, c.push_some.ensures.few, ap length c.new-offers.ensures);
    }

pub loop-shift-preserved : goal.loop-shift-preserved
loop-shift-preserved g c =
    let k = c.args.at.now.case.now in
    let n = c.args.at.now.nurse in
    let d = c.args.at.now.day in
    let can : Choice → Bool = takes k n (g.O.Offering.is_open c.args.by.now n) d in
    record {
      so_far = c.push_some-in-loop-shift.ensures.items ∙ ap₂ (λ xs ys. xs ++ ys) c.loop-shift.invariant.so_far c.cheapest_work.ensures ∙ sym (by_shift_more_shift k can (g.O.Offering.price c.args.by.now n) d c.loop-shift.shift);
      few = omega (arith, c.loop-shift.invariant.few, c.push_some-in-loop-shift.ensures.few);
    }

pub returns-clause-offers : goal.returns-clause-offers
returns-clause-offers g c =
    let k = c.args.at.now.case.now in
    let n = c.args.at.now.nurse in
    let d = c.args.at.now.day in
    let can : Choice → Bool = takes k n (g.O.Offering.is_open c.args.by.now n) d in
    let all : c.loop-shift.shift ≡ shift_count k = omega arith in
    c.loop-shift.invariant.so_far ∙ ap (λ m. cheapest_by_shift (offers_among can (offer_at (g.O.Offering.price c.args.by.now n) d) (of_shifts k m))) all
