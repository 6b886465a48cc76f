use Rattle.std.proofs.Common.{◌≡◌, ◌≢◌, ◌∙◌, ◌<◌, ℕ, ap, arith, length, max, nat_cmp, slice_index, subst}
use Rattle.std.specs.Ordering.{ord_max}
use Rattle.std.proofs.lemmas.Grind.{common_steps}
use Rattle.std.proofs.lemmas.List.{get_or_default}
use Rattle.roster_offers.specs.declared.offer.Offer.{Offer}
use Rattle.roster_instance.specs.Choices.{shift_of}
use Rattle.roster_row.specs.Recalled.{not_offered, price_index}
use Rattle.roster_row.proofs.RecallLaws.{dearer_more}
use Rattle.roster_row.proofs.last.change_since.Goals as goal

greater : (x y : ℕ) → ord_max nat_cmp x y ≡ max x y
greater x y = grind (arith, common_steps)

pub loop-offer-preserved : goal.loop-offer-preserved
loop-offer-preserved c =
    let prices = c.args.prices.now in
    let offers = c.args.offers.now in
    let index = c.loop-offer.offer-index in
    let inside : index < length offers = omega (arith, c.loop-offer-test.true) in
    let fall : c.max-fall.result ≡ max c.loop-offer.fall c.saturating_sub-in-loop-offer.result = c.max-fall.ensures ∙ greater _ _ in
    dearer_more prices offers index c.loop-offer.rise c.loop-offer.fall c.min-rise.result c.max-fall.result (omega (arith, c.min-rise.ensures)) (omega (arith, fall)) c.loop-offer.invariant (λ d.
    let same = get_or_default offers index _ d inside in
    let at = c.price_index.ensures ∙ ap (λ (o : Offer). price_index (shift_of o.choice)) same in
    record {
      index = c.requires.indices index d inside;
      offered = subst (λ p. slice_index prices p ≢ not_offered) at c.if-before.false;
      price = omega (arith, c.min-rise.ensures, fall, c.saturating_sub.ensures, c.saturating_sub-in-loop-offer.ensures, ap (slice_index prices) at, ap (λ (o : Offer). o.price) same);
    })
