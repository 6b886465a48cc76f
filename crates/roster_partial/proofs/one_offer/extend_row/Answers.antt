use Rattle.std.proofs.Common.{◌≡◌, ◌∙◌, ◌+◌, ◌*◌, ◌<◌, ap, arith, length, IfSome, List, None, Option, Some, refl, suc, sym, subst, ℕ}
use Rattle.std.proofs.Math.Path.{transport}
use Rattle.std.proofs.lemmas.List.{length-take-le}
use Rattle.std.proofs.lemmas.List.Elements.{All-get_or}
use Rattle.std.proofs.lemmas.Nat.{mul-le}
use Rattle.roster_instance.specs.declared.choice.Shift.{Shift}
use Rattle.roster_instance.specs.Meaning.{shift_count}
use Rattle.roster_state.specs.Codes.{sizes_of}
use Rattle.roster_state.proofs.CodeLemmas.{fits-all}
use Rattle.roster_offers.specs.Lists.{IsOfferAt}
use Rattle.roster_offers.specs.Offers.{dearer, offer_transition_at, scaled}
use Rattle.roster_offers.specs.Cheapest.{Priced, cheaper}
use Rattle.roster_offers.specs.declared.offer.Offer.{Offer}
use Rattle.roster_offers.proofs.Cheapest.{cheaper_none}
use Rattle.roster_offers.proofs.OfferLaws.{shift_of_case}
use Rattle.roster_offers.proofs.ScaleLaws.{day_low}
use Rattle.roster_completion.specs.Least.{IsAdjustmentOf}
use Rattle.roster_partial.specs.declared.rows.Entry.{Entry}
use Rattle.roster_partial.specs.Rates.{FitsNurse}
use Rattle.roster_partial.specs.Rows.{count_in, offer_numbered, rows_in}
use Rattle.roster_partial.specs.Searches.{best_onward, best_put, days_after, entry_before, offered}
use Rattle.roster_partial.proofs.RowCells.{rows_counted}
use Rattle.roster_partial.proofs.TransitionLaws.{by_pruned, by_entry, by_forbidden, read_day, read_transition}
use Rattle.roster_partial.proofs.one_offer.extend_row.Goals as goal
use Rattle.roster_partial.proofs.one_offer.extend_row.Goals.{After-extend, After-shift-shift}

-- the day's offers, as they are read
day_offers : (c : After-shift-shift) → c.as_slice-day_offers.result.now ≡ offered c.args.limited.now.completion_bounds.search c.args.at.day
day_offers c =
    let search = c.args.limited.now.completion_bounds.search in
    c.as_slice-day_offers.ensures.value ∙ sym (read_day search.offers.now c.args.at.day c.index-offers-at.result (omega (arith, c.requires.day, c.args.limited.now.completion_bounds.search.for_nurse.days)) c.index-offers-at.is)

-- the offer is one of the case's
of_case : (c : After-shift-shift) → IsOfferAt c.args.limited.now.completion_bounds.search.case.now c.args.limited.now.completion_bounds.search.scale (offer_numbered c.as_slice-day_offers.result.now c.args.extension.link.offer)
of_case c =
    let search = c.args.limited.now.completion_bounds.search in
    let index = c.args.extension.link.offer in
    subst (λ xs. IsOfferAt search.case.now search.scale (offer_numbered xs index)) (sym (day_offers c)) (All-get_or (IsOfferAt search.case.now search.scale) (offered search c.args.at.day) index _ c.requires.extension.offer (c.args.limited.now.completion_bounds.search.for_nurse.each c.args.at.day c.requires.day).of_case)

-- the transition by it
transition : (c : After-extend) → c.as_slice-day_offers.result.now ≡ offered c.args.limited.now.completion_bounds.search c.args.at.day
    → offer_transition_at c.args.limited.now.completion_bounds.search.case.now c.args.limited.now.completion_bounds.search.nurse c.args.limited.now.completion_bounds.search.scale c.args.at.day (entry_before c.args.at c.args.rows.now c.args.extension.link.before).state (offer_numbered (offered c.args.limited.now.completion_bounds.search c.args.at.day) c.args.extension.link.offer)
    ≡ dearer (offer_numbered c.as_slice-day_offers.result.now c.args.extension.link.offer).price (scaled c.args.limited.now.completion_bounds.search.scale c.extend.result)
transition c same =
    let search = c.args.limited.now.completion_bounds.search in
    read_transition search.case.now search.nurse search.scale c.args.at.day _ _ _ _ _ c.extend.result (ap (λ xs. offer_numbered xs c.args.extension.link.offer) same) c.requires.extension.onward.state c.shift-shift.ensures c.extend.ensures.next

-- if it leads to no row within the limit
none_more : (best more : Priced (List Offer)) → more ≡ None → best ≡ cheaper best more
none_more best more is = sym (ap (cheaper best) is ∙ cheaper_none best)

pub returns-in_default-clause-best : goal.returns-in_default-clause-best
returns-in_default-clause-best c = λ _.
    let at = goal.at.returns-in_default-clause-best c in
    let price = (offer_numbered c.as_slice-day_offers.result.now c.args.extension.link.offer).price in
    let e = entry_before c.args.at c.args.rows.now c.args.extension.link.before in
    let x = offer_numbered (offered c.args.limited.now.completion_bounds.search c.args.at.day) c.args.extension.link.offer in
    none_more _ _ (by_forbidden (days_after c.args.limited.now c.args.at c.args.rows.now) c.args.at.day e x (transition at.After-extend (day_offers at.After-shift-shift) ∙ ap (λ o. dearer price (scaled c.args.limited.now.completion_bounds.search.scale o)) c.in_default.is))

pub returns-then-is_pruned-clause-best : goal.returns-then-is_pruned-clause-best
returns-then-is_pruned-clause-best c = λ _.
    let at = goal.at.returns-then-is_pruned-clause-best c in
    let limited = c.args.limited.now in
    let day = c.args.at.day in
    let price = (offer_numbered c.as_slice-day_offers.result.now c.args.extension.link.offer).price in
    let next : suc day ≡ day + 1 = omega arith in
    let pruned = λ (rest : ℕ) (row : List Offer) (is : best_onward limited (suc day) c.in-Some.transition.0 ≡ Some (rest, row)). c.if-is_pruned.ensures.pruned refl rest row (subst (λ (n : ℕ). best_onward limited n c.in-Some.transition.0 ≡ Some (rest, row)) next is) in
    let e = entry_before c.args.at c.args.rows.now c.args.extension.link.before in
    let x = offer_numbered (offered limited.completion_bounds.search day) c.args.extension.link.offer in
    none_more _ _ (by_pruned (days_after limited c.args.at c.args.rows.now) day e x c.in-Some.transition.0 (price + limited.completion_bounds.search.scale * c.in-Some.transition.1) (transition at.After-extend (day_offers at.After-shift-shift) ∙ ap (λ o. dearer price (scaled limited.completion_bounds.search.scale o)) c.in-Some.is) (λ rest row is. omega (arith, c.requires.extension.onward.cost, pruned rest row is)))

pub returns-clause-best : goal.returns-clause-best
returns-clause-best c = λ is.
    let at = goal.at.returns-clause-best c in
    let limited = c.args.limited.now in
    let day = c.args.at.day in
    let price = (offer_numbered c.as_slice-day_offers.result.now c.args.extension.link.offer).price in
    let link = c.args.extension.link in
    let e = entry_before c.args.at c.args.rows.now link.before in
    let x = offer_numbered (offered limited.completion_bounds.search day) link.offer in
    let more : Entry = record { state = c.in-Some.transition.0; cost = c.args.extension.cost + price + limited.completion_bounds.search.scale * c.in-Some.transition.1; before = link.before; offer = link.offer } in
    c.put.ensures.best is
    ∙ ap (cheaper (best_put limited c.args.at c.args.rows.now)) (by_entry (days_after limited c.args.at c.args.rows.now) day e x c.in-Some.transition.0 (price + limited.completion_bounds.search.scale * c.in-Some.transition.1) (transition at.After-extend (day_offers at.After-shift-shift) ∙ ap (λ o. dearer price (scaled limited.completion_bounds.search.scale o)) c.in-Some.is) more refl refl (omega (arith, c.requires.extension.onward.cost)) refl refl)

-- what the callees require of the partial row
pub extend-requires-clause-worked : goal.extend-requires-clause-worked
extend-requires-clause-worked c = c.requires.extension.work.worked

pub extend-requires-clause-fits : goal.extend-requires-clause-fits
extend-requires-clause-fits c = subst (FitsNurse c.args.limited.now.completion_bounds.search) (sym c.requires.extension.onward.state) c.requires.extension.onward.entry.fits

pub extend-requires-clause-shift : goal.extend-requires-clause-shift
extend-requires-clause-shift c =
    let case = c.args.limited.now.completion_bounds.search.case.now in
    subst (λ (x : Option Shift). IfSome x (λ u. u.0 < shift_count case)) (sym c.shift-shift.ensures) (shift_of_case case _ (of_case (goal.at.extend-requires-clause-shift c).After-shift-shift).choice)

pub overflow_add-cost-2 : goal.overflow_add-cost-2
overflow_add-cost-2 c =
    let search = c.args.limited.now.completion_bounds.search in
    let day = day_low search.scale _ c.in-Some.transition.1 search.in_scale.few (of_case (goal.at.overflow_add-cost-2 c).After-shift-shift).price c.in-Some.ensures.within in
    omega (arith, day, c.requires.extension.onward.low, c.args.limited.now.low)

pub overflow_add-cost : goal.overflow_add-cost
overflow_add-cost c = omega (arith, (of_case (goal.at.overflow_add-cost c).After-shift-shift).price, c.args.limited.now.completion_bounds.search.in_scale.few, c.requires.extension.onward.low, c.args.limited.now.low)

pub overflow_mul-cost : goal.overflow_mul-cost
overflow_mul-cost c =
    let search = c.args.limited.now.completion_bounds.search in
    omega (arith, mul-le search.scale c.in-Some.transition.1 128 45080 search.in_scale.few c.in-Some.ensures.within)

pub adjustment_after-adjustment-requires-clause-worked : goal.adjustment_after-adjustment-requires-clause-worked
adjustment_after-adjustment-requires-clause-worked c works =
    let limited = c.args.limited.now in
    let same = c.in-Some.ensures.works works in
    transport (λ i. IsAdjustmentOf limited.completion_bounds (c.args.at.day + 1) (sym same.0 i) (sym same.1 i) c.args.extension.work.adjustment) c.requires.extension.work.adjustment

pub put-requires-clause-entry : goal.put-requires-clause-entry
put-requires-clause-entry c =
    let at = c.args.at in
    let onward = c.requires.extension.onward in
    record {
      fits = c.in-Some.ensures.next_fits;
      linked = (omega (arith, onward.inside, length-take-le at.end (rows_in c.args.rows.now) c.requires.rows.inside), c.requires.extension.offer, onward.entry.linked);
    }

pub put-requires-clause-offer : goal.put-requires-clause-offer
put-requires-clause-offer c = omega (arith, c.requires.extension.offer, ap length (day_offers (goal.at.put-requires-clause-offer c).After-shift-shift), c.as_slice-day_offers.ensures.fits)

pub put-requires-clause-last : goal.put-requires-clause-last
put-requires-clause-last c =
    let search = c.args.limited.now.completion_bounds.search in
    omega (arith, (fits-all (sizes_of search.case.now search.nurse) c.in-Some.transition.0 c.in-Some.ensures.next_fits).last, c.keeps_limits.ensures.shifts)

pub overflow_cast-more : goal.overflow_cast-more
overflow_cast-more c = omega (arith, c.requires.extension.onward.inside, c.requires.rows.inside, rows_counted c.args.rows.now (count_in c.args.rows.now) refl, c.requires.rows.held.within, c.args.limited.now.few)

pub overflow_cast-more-2 : goal.overflow_cast-more-2
overflow_cast-more-2 c = omega (arith, c.requires.extension.offer, ap length (day_offers (goal.at.overflow_cast-more-2 c).After-shift-shift), c.as_slice-day_offers.ensures.fits)
