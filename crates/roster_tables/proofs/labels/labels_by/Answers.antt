use Rattle.std.proofs.Common.{◌≡◌, ◌<◌, IfSome, Option, ap, arith, subst, sym, true}
use Rattle.std.proofs.lemmas.Nat.{mul-le}
use Rattle.roster_instance.specs.declared.choice.Shift.{Shift}
use Rattle.roster_instance.specs.Meaning.{shift_count}
use Rattle.roster_state.specs.Codes.{Sizes, fits_sizes}
use Rattle.roster_offers.proofs.OfferLaws.{shift_of_case}
use Rattle.roster_offers.proofs.ScaleLaws.{day_low}
use Rattle.roster_tables.proofs.SpanLaws.{labels_by, of_case, refused_by}
use Rattle.roster_tables.proofs.labels.labels_by.Goals as goal

pub extend_span-requires-clause-shift : goal.extend_span-requires-clause-shift
extend_span-requires-clause-shift c =
    let day = c.args.day.now in
    subst (λ (x : Option Shift). IfSome x (λ u. u.0 < shift_count day.days.search.case.now)) (sym c.shift-shift.ensures) (shift_of_case day.days.search.case.now _ (of_case day c.args.here.now.span c.args.place c.requires.place c.shift-shift.result c.shift-shift.ensures).choice)

pub extend_span-requires-clause-fits : goal.extend_span-requires-clause-fits
extend_span-requires-clause-fits c = subst (λ (z : Sizes). fits_sizes z c.args.here.now.span.block ≡ true) c.args.day.now.days.own_ranges c.requires.here.of_day.fits

pub extend_span-requires-clause-places : goal.extend_span-requires-clause-places
extend_span-requires-clause-places c =
    omega (arith, c.requires.here.of_day.some_places, c.requires.here.of_day.assignments, ap (λ (z : Sizes). z.assignments) c.args.day.now.days.own_ranges)

pub code-first-requires : goal.code-first-requires
code-first-requires c = subst (λ (z : Sizes). fits_sizes z c.in-Some.transition.0 ≡ true) (sym c.args.day.now.days.own_ranges) c.in-Some.ensures.next_fits

pub overflow_mul-result : goal.overflow_mul-result
overflow_mul-result c =
    let scale = c.args.day.now.days.search.scale in
    let cost = mul-le scale c.in-Some.transition.1 128 45080 c.args.day.now.days.search.in_scale.few c.in-Some.ensures.within in
    omega (arith, cost)

pub overflow_add-result : goal.overflow_add-result
overflow_add-result c =
    let scale = c.args.day.now.days.search.scale in
    let offer = of_case c.args.day.now c.args.here.now.span c.args.place c.requires.place c.shift-shift.result c.shift-shift.ensures in
    omega (arith, day_low scale _ c.in-Some.transition.1 c.args.day.now.days.search.in_scale.few offer.price c.in-Some.ensures.within)

pub returns-clause-by : goal.returns-clause-by
returns-clause-by c = labels_by c.args.day.now c.args.here.now.span c.args.place c.requires.place c.shift-shift.result c.shift-shift.ensures c.requires.here.of_day c.in-Some.transition c.in-Some.ensures.within c.in-Some.ensures.transitions c.code-first.result c.code-first.ensures.code

-- ---- if the offer is not allowed

pub returns-in_default-clause-none : goal.returns-in_default-clause-none
returns-in_default-clause-none c _ = refused_by c.args.day.now c.args.here.now.span c.args.place c.requires.place c.shift-shift.result c.shift-shift.ensures c.in_default.ensures.transitions
