use Rattle.std.proofs.Common.{◌≡◌, ◌∙◌, ◌+◌, ◌*◌, ◌<◌, ◌≤◌, IfSome, Option, ap, arith, refl, slice_index_or, subst, sym, true}
use Rattle.std.proofs.Math.Path.{transport}
use Rattle.std.proofs.lemmas.List.Elements.{All-get_or}
use Rattle.std.proofs.lemmas.Nat.{mul-le}
use Rattle.std.specs.List.{All}
use Rattle.roster_instance.specs.declared.choice.Shift.{Shift}
use Rattle.roster_instance.specs.Meaning.{day_count, shift_count}
use Rattle.roster_state.specs.Codes.{Sizes, fits_sizes, product}
use Rattle.roster_offers.proofs.OfferLaws.{shift_of_case}
use Rattle.roster_offers.specs.Lists.{IsOfferAt, offers_on}
use Rattle.roster_offers.proofs.ListLaws.{no_offer, offers_read}
use Rattle.roster_offers.proofs.LowRows.{LowRow}
use Rattle.roster_tables.specs.Days.{boxes_next, best_here, best_next, day_of}
use Rattle.roster_tables.specs.Search.{boxes_on}
use Rattle.roster_tables.specs.Tables.{LeadsOn, PointsToBest, best_by}
use Rattle.roster_tables.proofs.ReadLaws.{after_reachable, low_of, low_row, pointer_within, points_here, read_begins, read_goes_on}
use Rattle.roster_tables.proofs.read.read_day.Goals as goal
use Rattle.roster_tables.proofs.read.read_day.Goals.{After-get-pointer}

-- the day's offers, as they are read from the table
offers_here : (c : After-get-pointer) → c.as_slice-offers.result.now ≡ offers_on c.args.days.now.search.offers.now c.args.day
offers_here c = c.as_slice-offers.ensures.value ∙ offers_read c.args.days.now.search.case.now c.args.days.now.search.nurse c.args.days.now.search.offers.now c.args.days.now.search.for_nurse c.args.day c.requires.day _ c.index-days-day.result refl

-- what the pointer points to
pointed : (c : After-get-pointer) (best : LowRow (best_here c.args.days.now c.args.day c.args.state.now)) → PointsToBest (best_by c.args.days.now.search.case.now (day_of c.args.days.now c.args.day) (best_next c.args.days.now c.args.day) c.args.state.now) c.as_slice-offers.result.now best.row c.get-pointer.result
pointed c best =
    let days = c.args.days.now in
    let first = ap (λ n. c.args.day * n) c.product.ensures.product in
    transport (λ i. PointsToBest (best_by days.search.case.now (day_of days c.args.day) (best_next days c.args.day) c.args.state.now) (sym (offers_here c) i) best.row (sym c.get-pointer.ensures.value i))
    (points_here days c.args.day c.requires.day c.args.state.now c.requires.reachable c.args.pointers.now c.requires.pointers (c.args.day * c.product.result) c.code.result first c.code.ensures.code best.row best.is best.low)

pub bounds-days-day : goal.bounds-days-day
bounds-days-day c = omega (arith, c.requires.day, c.args.days.now.search.for_nurse.days)

pub overflow_mul-first : goal.overflow_mul-first
overflow_mul-first c =
    let day : c.args.day ≤ 364 = omega (arith, c.requires.day, c.keeps_limits.ensures.weeks) in
    omega (arith, mul-le c.args.day c.product.result 364 1048576 day (omega (arith, c.product.ensures.within)))

pub code-requires : goal.code-requires
code-requires c = subst (λ (z : Sizes). fits_sizes z c.args.state.now ≡ true) (sym c.args.days.now.own_ranges) c.requires.reachable.fits

pub get-pointer-requires : goal.get-pointer-requires
get-pointer-requires c =
    let size = product c.args.days.now.ranges in
    omega (arith, c.code.ensures.within, c.requires.capacity, ap (λ n. c.args.day * n) c.product.ensures.product, mul-le (c.args.day + 1) size (day_count c.args.days.now.search.case.now) size (omega (arith, c.requires.day)) (omega arith))

pub bounds-offers-pointer : goal.bounds-offers-pointer
bounds-offers-pointer c =
    let best = low_row _ c.requires.some c.requires.low in
    pointer_within _ c.as_slice-offers.result.now best.row c.get-pointer.result (pointed (goal.at.bounds-offers-pointer c).After-get-pointer best)

pub after-requires-clause-shift : goal.after-requires-clause-shift
after-requires-clause-shift c =
    let k = c.args.days.now.search.case.now in
    let at = (goal.at.after-requires-clause-shift c).After-get-pointer in
    let offers = c.as_slice-offers.result.now in
    let place = c.get-pointer.result in
    let best = low_row _ c.requires.some c.requires.low in
    let scale = c.args.days.now.search.scale in
    let all = subst (All (IsOfferAt k scale)) (sym (offers_here at)) (c.args.days.now.search.for_nurse.each c.args.day c.requires.day).of_case in
    let of_case = All-get_or (IsOfferAt k scale) offers place no_offer (pointer_within _ offers best.row place (pointed at best)) all in
    subst (λ (x : Option Shift). IfSome x (λ u. u.0 < shift_count k)) (sym c.shift.ensures) (shift_of_case k (slice_index_or offers place no_offer).choice of_case.choice)

pub unreachable-requires : goal.unreachable-requires
unreachable-requires c =
    let days = c.args.days.now in
    let best = low_row _ c.requires.some c.requires.low in
    read_goes_on days.search.case.now (day_of days c.args.day) (best_next days c.args.day) c.args.state.now c.as_slice-offers.result.now best.row c.get-pointer.result (pointed (goal.at.unreachable-requires c).After-get-pointer best) _ c.shift.result c.shift.ensures c.after.result c.after.ensures.state c.in-None.is

pub returns-clause-begins : goal.returns-clause-begins
returns-clause-begins c row is =
    let days = c.args.days.now in
    let best : LowRow (best_here days c.args.day c.args.state.now) = record { row = row; is = is; low = low_of _ row is c.requires.low } in
    read_begins days.search.case.now (day_of days c.args.day) (best_next days c.args.day) c.args.state.now c.as_slice-offers.result.now row c.get-pointer.result (pointed (goal.at.returns-clause-begins c).After-get-pointer best) _ c.shift.result c.shift.ensures c.after.result c.after.ensures.state c.in-Some.next c.in-Some.is

pub returns-clause-reachable : goal.returns-clause-reachable
returns-clause-reachable c =
    let days = c.args.days.now in
    let k = days.search.case.now in
    let at = (goal.at.returns-clause-reachable c).After-get-pointer in
    let offers = c.as_slice-offers.result.now in
    let place = c.get-pointer.result in
    let best = low_row _ c.requires.some c.requires.low in
    let Leads = LeadsOn k days.search.nurse c.args.day (boxes_on days.boxes.now c.args.day) (boxes_next days c.args.day) in
    let leads = subst (All Leads) (sym (offers_here at)) (days.are_reachable.lead c.args.day c.requires.day) in
    after_reachable k days.search.nurse c.args.day c.args.state.now c.in-Some.next c.shift.result (boxes_on days.boxes.now c.args.day) (boxes_next days c.args.day) (slice_index_or offers place no_offer)
    (All-get_or Leads offers place no_offer (pointer_within _ offers best.row place (pointed at best)) leads) c.requires.reachable c.shift.ensures (sym c.in-Some.is ∙ c.after.ensures.state)
