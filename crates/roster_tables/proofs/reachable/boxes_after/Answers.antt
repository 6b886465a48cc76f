use Rattle.std.proofs.Common.{◌≡◌, ◌∙◌, ◌<◌, arith, refl, slice_index_or, subst, sym, take, IfSome, Option}
use Rattle.std.proofs.lemmas.List.{take_all}
use Rattle.std.proofs.lemmas.List.Elements.{All-get_or, All-more}
use Rattle.std.specs.List.{All}
use Rattle.roster_instance.specs.declared.choice.Shift.{Shift}
use Rattle.roster_instance.specs.Meaning.{shift_count}
use Rattle.roster_offers.specs.Lists.{IsOfferAt, offers_on}
use Rattle.roster_offers.proofs.OfferLaws.{shift_of_case}
use Rattle.roster_offers.proofs.ListLaws.{no_offer, offers_read}
use Rattle.roster_tables.specs.Tables.{LeadsOn}
use Rattle.roster_tables.proofs.ReachableLaws.{leads_by, leads_kept}
use Rattle.roster_tables.proofs.reachable.boxes_after.Goals as goal
use Rattle.roster_tables.proofs.reachable.boxes_after.Goals.{After-as_slice-offers}

-- the day's offers, as they are read from the table
offers_here : (c : After-as_slice-offers) → c.as_slice-offers.result.now ≡ offers_on c.args.search.now.offers.now c.args.day
offers_here c = c.as_slice-offers.ensures.value ∙ offers_read c.args.search.now.case.now c.args.search.now.nurse c.args.search.now.offers.now c.args.search.now.for_nurse c.args.day c.requires.day _ c.index-search-day.result refl

pub loop-place-preserved : goal.loop-place-preserved
loop-place-preserved c =
    let search = c.args.search.now in
    let k = search.case.now in
    let n = search.nurse in
    let day = c.args.day in
    let boxes = c.args.boxes.now in
    let offers = c.as_slice-offers.result.now in
    let place = c.loop-place.place in
    let old = leads_kept k n day boxes c.loop-place.after c.widen.new.after (take place offers) c.widen.ensures.keeps c.loop-place.invariant in
    let all = subst (All (IsOfferAt k search.scale)) (sym (offers_here (goal.at.loop-place-preserved c).After-as_slice-offers)) (search.for_nurse.each c.args.day c.requires.day).of_case in
    let offer = slice_index_or offers place no_offer in
    let of_case = All-get_or (IsOfferAt k search.scale) offers place no_offer c.loop-place-test.true all in
    let known = subst (λ (x : Option Shift). IfSome x (λ u. u.0 < shift_count k)) (sym c.shift-shift.ensures) (shift_of_case k offer.choice of_case.choice) in
    let more = leads_by k n day boxes c.widen.new.after offer c.shift-shift.result c.shift-shift.ensures known c.widen.ensures.leads in
    All-more (LeadsOn k n day boxes c.widen.new.after) offers place no_offer c.loop-place-test.true old more

pub returns : goal.returns
returns c =
    let search = c.args.search.now in
    let k = search.case.now in
    let Leads = LeadsOn k search.nurse c.args.day c.args.boxes.now c.loop-place.after in
    let offers = c.as_slice-offers.result.now in
    subst (All Leads) (take_all c.loop-place.place offers (omega (arith, c.loop-place-test.false)) ∙ offers_here (goal.at.returns c).After-as_slice-offers) c.loop-place.invariant
