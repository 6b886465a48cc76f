use Rattle.std.proofs.Common.{◌≡◌, ◌∙◌, ◌<◌, ap, arith, length, map, refl, slice_index_or, subst, suc, sym}
use Rattle.std.proofs.lemmas.List.{get_or-map, length-map}
use Rattle.roster_instance.specs.declared.choice.Choice.TheVariants.{Off}
use Rattle.roster_offers.specs.declared.offer.Offer.{Offer}
use Rattle.roster_offers.specs.Cheapest.{cheaper}
use Rattle.roster_offers.proofs.Cheapest.{cheaper_none}
use Rattle.roster_rules.specs.Prefix.{Summary}
use Rattle.roster_partial.specs.Allowed.{MayFollow}
use Rattle.roster_partial.specs.Rows.{best_by, earlier_in, entry_numbered, offer_numbered}
use Rattle.roster_partial.specs.Searches.{IsOnwardFrom, best_put, days_after, days_on, entry_before, offered}
use Rattle.roster_partial.proofs.AddLaws.{by_offers, gathered}
use Rattle.roster_partial.proofs.AllowedLaw.{by_allowed}
use Rattle.roster_partial.proofs.one_day.extend_by_all.Goals as goal

pub offers-init : goal.offers-init
offers-init c = record {
  rows = c.requires.rows;
  front = refl;
  best = sym (cheaper_none (best_put c.args.limited.now c.args.at c.args.rows.now));
  from = omega arith;
  meter = omega arith;
  each = omega arith;
}

pub extend_row-requires-clause-extension : goal.extend_row-requires-clause-extension
extend_row-requires-clause-extension c = record {
  onward = subst (λ earlier. IsOnwardFrom c.args.limited.now c.args.at earlier c.args.onward.now.before c.args.onward.now.state c.args.onward.now.cost) (sym c.offers.invariant.front) c.requires.onward;
  offer = c.requires.allowed.inside c.offers.next 0 c.offers-test.true;
  work = c.after_work-work.ensures;
}

pub extend_row-requires-clause-room : goal.extend_row-requires-clause-room
extend_row-requires-clause-room c = omega (arith, c.offers.invariant.meter, c.offers-test.true, c.requires.room)

pub returns-then-not-extend_row-clause-front : goal.returns-then-not-extend_row-clause-front
returns-then-not-extend_row-clause-front c = c.extend_row.ensures.front ∙ c.offers.invariant.front

pub returns-then-not-extend_row-clause-counted : goal.returns-then-not-extend_row-clause-counted
returns-then-not-extend_row-clause-counted c = omega (arith, c.extend_row.ensures.counted, c.offers.invariant.meter, c.offers-test.true)

pub returns-then-not-extend_row-clause-each : goal.returns-then-not-extend_row-clause-each
returns-then-not-extend_row-clause-each c = omega (arith, c.extend_row.ensures.counted, c.extend_row.ensures.few, c.offers.invariant.each)

pub offers-preserved : goal.offers-preserved
offers-preserved c =
    let limited = c.args.limited.now in
    let at = c.args.at in
    let old = c.args.rows.now in
    let then = c.offers.rows in
    let now = c.extend_row.new.rows in
    let before = c.args.onward.now.before in
    let offers = offered limited.completion_bounds.search at.day in
    let allowed = c.args.onward.now.allowed.now in
    let x = offer_numbered offers (slice_index_or allowed c.offers.next 0) in
    let ys = map (offer_numbered offers) allowed in
    let inside : c.offers.next < length ys = omega (arith, c.offers-test.true, length-map allowed (offer_numbered offers)) in
    let by = best_by (days_after limited at old) at.day (entry_before at old before) in
    let none : Offer = record { choice = Off; price = 0 } in
    let is : slice_index_or ys c.offers.next none ≡ x = get_or-map (offer_numbered offers) allowed c.offers.next 0 none (omega (arith, c.offers-test.true)) in
    let next =
    subst (λ earlier. best_put limited at now ≡ cheaper (best_put limited at then) (best_by (days_on limited (suc at.day) earlier) at.day (entry_numbered earlier before) x))
    c.offers.invariant.front (c.extend_row.ensures.best c.if-not-extend_row.false) in
    record {
      rows = c.extend_row.ensures.rows;
      front = c.extend_row.ensures.front ∙ c.offers.invariant.front;
      best = gathered by ys c.offers.next none _ _ _ inside c.offers.invariant.best (next ∙ ap (λ y. cheaper (best_put limited at then) (by y)) (sym is));
      from = omega (arith, c.extend_row.ensures.counted, c.offers.invariant.from);
      meter = omega (arith, c.extend_row.ensures.counted, c.offers.invariant.meter);
      each = omega (arith, c.extend_row.ensures.counted, c.extend_row.ensures.few, c.offers.invariant.each);
    }

pub returns-clause-best : goal.returns-clause-best
returns-clause-best c = λ _.
    let limited = c.args.limited.now in
    let at = c.args.at in
    let earlier = earlier_in c.args.rows.now at.end in
    let e = entry_before at c.args.rows.now c.args.onward.now.before in
    let offers = offered limited.completion_bounds.search at.day in
    let allowed = subst (λ (s : Summary). MayFollow limited.completion_bounds.search.case.now s.last offers c.args.onward.now.allowed.now) c.requires.onward.state c.requires.allowed in
    let all = by_allowed (days_after limited at c.args.rows.now) at.day e offers c.args.onward.now.allowed.now c.offers.next allowed (omega (arith, c.offers-test.false)) in
    c.offers.invariant.best ∙ ap (cheaper (best_put limited at c.args.rows.now)) (all ∙ by_offers limited at.day earlier e c.requires.day)

pub returns-clause-counted : goal.returns-clause-counted
returns-clause-counted c = omega (arith, c.offers.invariant.meter, c.offers.auto.next-end)
