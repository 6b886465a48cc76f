use Rattle.std.proofs.Common.{◌≡◌, ◌∙◌, ◌-◌, ◌*◌, ◌+◌, ◌≤◌, ℕ, ap, arith, false, length, min, mul_comm, subst, sym, true}
use Rattle.std.proofs.lemmas.Nat.{mul-le}
use Rattle.roster_rules.specs.Prefix.{Summary}
use Rattle.roster_state.specs.declared.state_box.StateBox.{StateBox}
use Rattle.roster_state.specs.Boxes.{box_at}
use Rattle.roster_state.specs.Codes.{Sizes, code_of, fits_sizes, shift_digit, sizes_of}
use Rattle.roster_state.specs.Reachable.{can_be}
use Rattle.roster_state.specs.Spans.{span_state}
use Rattle.roster_state.proofs.CodeLemmas.{fits-all}
use Rattle.roster_tables.specs.Counts.{states_with}
use Rattle.roster_tables.specs.OpenDays.{IsReachableBy, IsReachableOn}
use Rattle.roster_tables.proofs.CellLaws.{tables_same, tables_then, tables_wider}
use Rattle.roster_tables.proofs.CountLaws.{Goes, exactly_on, goes_only, none_with, numbers_are, some_with}
use Rattle.roster_tables.proofs.GroupLaws.{code_block, like_can_be, like_place, place_reachable, weekends_fit}
use Rattle.roster_tables.proofs.SpanLaws.{group_more, group_tables, strips_counted}
use Rattle.roster_tables.proofs.labels.label_group.Goals as goal
use Rattle.roster_tables.proofs.labels.label_group.Goals.{After-below-first, After-can_be}

-- ---- the group

-- the assignments of the loop, and the weekends
places_here : (c : After-below-first) → Goes (box_at c.args.day.now.boxes.now (shift_digit c.args.group.last)).assignments (sizes_of c.args.day.now.days.search.case.now c.args.day.now.days.search.nurse).assignments c.below-begin.result.0 c.below-begin.result.1
places_here c =
    let is = c.box_of-state_box.ensures ∙ ap (box_at c.args.day.now.boxes.now) c.last_number.ensures.number in
    let size = c.assignments-stride.ensures.assignments ∙ ap (λ (y : Sizes). y.assignments) c.args.day.now.days.own_ranges in
    record { end_is = c.below-begin.ensures.end ∙ (λ i. min ((is i).assignments.greatest + 1) (size i)); begin_is = c.below-begin.ensures.first ∙ ap (λ (x : StateBox). min x.assignments.least c.below-begin.result.1) is }

weekends_here : (c : After-below-first) → Goes (box_at c.args.day.now.boxes.now (shift_digit c.args.group.last)).weekends (sizes_of c.args.day.now.days.search.case.now c.args.day.now.days.search.nurse).weekends c.below-first.result.0 c.below-first.result.1
weekends_here c =
    let is = c.box_of-state_box.ensures ∙ ap (box_at c.args.day.now.boxes.now) c.last_number.ensures.number in
    let size = c.weekends.ensures.weekends ∙ ap (λ (y : Sizes). y.weekends) c.args.day.now.days.own_ranges in
    record { end_is = c.below-first.ensures.end ∙ (λ i. min ((is i).weekends.greatest + 1) (size i)); begin_is = c.below-first.ensures.first ∙ ap (λ (x : StateBox). min x.weekends.least c.below-first.result.1) is }

-- a row may lead to its states, and how many are reachable
may_be : (c : After-below-first) → can_be c.args.day.now.days.search.case.now c.args.day.now.days.search.nurse c.args.group ≡ true
may_be c = sym c.can_be.ensures ∙ c.if-not-can_be.false

states_here : (c : After-below-first) → (c.below-first.result.1 - c.below-first.result.0) * (c.below-begin.result.1 - c.below-begin.result.0) ≡ states_with c.args.day.now.days.search.case.now c.args.day.now.days.search.nurse c.args.day.now.boxes.now c.args.group
states_here c = (λ i. numbers_are (weekends_here c) i * numbers_are (places_here c) i) ∙ sym (some_with c.args.day.now.days.search.case.now c.args.day.now.days.search.nurse c.args.day.now.boxes.now c.args.group (may_be c))

pub box_of-state_box-requires : goal.box_of-state_box-requires
box_of-state_box-requires c =
    omega (arith, c.last_number.ensures, (fits-all c.args.day.now.days.ranges c.args.group c.requires.group.fits).last, ap (λ (z : Sizes). z.last) c.args.day.now.days.own_ranges, c.keeps_limits.ensures.shifts)

-- ---- if no state of the group is reachable

none_can_be : (c : After-can_be) → c.can_be.result ≡ false → (s : Summary) → IsReachableBy c.args.day.now c.args.group s → ⊥
none_can_be c not s like =
    let clash : true ≡ false = sym (like_can_be like) ∙ sym c.can_be.ensures ∙ not in
    cc

pub returns-then-not-can_be-clause-tables : goal.returns-then-not-can_be-clause-tables
returns-then-not-can_be-clause-tables c =
    let none = none_can_be (goal.at.returns-then-not-can_be-clause-tables c).After-can_be c.if-not-can_be.true in
    record { labels_are = λ s like. absurd (none s like); pointers_are = λ s like. absurd (none s like) }

pub returns-then-not-can_be-clause-outside : goal.returns-then-not-can_be-clause-outside
returns-then-not-can_be-clause-outside c = tables_same c.args.day.now _ _ c.args.labels.now c.args.pointers.now

pub returns-then-not-can_be-clause-exactly : goal.returns-then-not-can_be-clause-exactly
returns-then-not-can_be-clause-exactly c =
    exactly_on {states = 0} (length c.args.day.now.offers.now) c.args.meter.now c.args.meter.now (omega arith) (sym (none_with c.args.day.now.days.search.case.now c.args.day.now.days.search.nurse c.args.day.now.boxes.now c.args.group (sym c.can_be.ensures ∙ c.if-not-can_be.true)))

none_between : (c : After-below-first) → c.below-begin.result.1 ≤ c.below-begin.result.0 → (s : Summary) → IsReachableBy c.args.day.now c.args.group s → ⊥
none_between c short s like = let inside = like_place like (places_here c) in omega (arith, inside.0, inside.1, short)

pub returns-then-end-begin-clause-tables : goal.returns-then-end-begin-clause-tables
returns-then-end-begin-clause-tables c =
    let none = none_between (goal.at.returns-then-end-begin-clause-tables c).After-below-first c.if-end-begin.true in
    record { labels_are = λ s like. absurd (none s like); pointers_are = λ s like. absurd (none s like) }

pub returns-then-end-begin-clause-outside : goal.returns-then-end-begin-clause-outside
returns-then-end-begin-clause-outside c = tables_same c.args.day.now _ _ c.args.labels.now c.args.pointers.now

pub returns-then-end-begin-clause-exactly : goal.returns-then-end-begin-clause-exactly
returns-then-end-begin-clause-exactly c =
    let zero : c.below-begin.result.1 - c.below-begin.result.0 ≡ 0 = omega (arith, c.if-end-begin.true) in
    let strips = c.below-first.result.1 - c.below-first.result.0 in
    let none : 0 ≡ strips * (c.below-begin.result.1 - c.below-begin.result.0) = omega arith ∙ ap (λ j. strips * j) (sym zero) in
    exactly_on {states = 0} (length c.args.day.now.offers.now) c.args.meter.now c.args.meter.now (omega arith) (none ∙ states_here (goal.at.returns-then-end-begin-clause-exactly c).After-below-first)

-- ---- the strips

none_counted : (long first width before : ℕ) → before ≡ before + long * ((first - first) * width)
none_counted long first width before =
    let none : first - first ≡ 0 = omega arith in
    let same : before ≡ before + long * (0 * width) = omega arith in
    same ∙ ap (λ j. before + long * (j * width)) (sym none)

pub loop-weekends-init : goal.loop-weekends-init
loop-weekends-init c = record {
  begun = omega arith;
  inside = c.below-first.ensures.order.0;
  least = λ w a low high begin_a to_a. absurd (omega (arith, low, high));
  outside = tables_same c.args.day.now _ _ c.args.labels.now c.args.pointers.now;
  counted = none_counted (length c.args.day.now.offers.now) c.below-first.result.0 (c.below-begin.result.1 - c.below-begin.result.0) c.args.meter.now;
}

pub label_strips-requires-clause-span : goal.label_strips-requires-clause-span
label_strips-requires-clause-span c =
    let day = c.args.day.now in
    let z = day.days.ranges in
    let good = c.requires.group in
    let at = (goal.at.label_strips-requires-clause-span c).After-below-first in
    let begin = c.below-begin.result.0 in
    let w = c.loop-weekends.weekends in
    let strips = c.strips_that_fit-strips.result in
    let is = sym c.with_weekends-block.ensures in
    let few : w + strips ≤ c.below-first.result.1 = omega (arith, c.strips_that_fit-strips.ensures.within, c.alike_strips-alike.ensures.within, c.loop-weekends-test.true) in
    let up_to : c.below-first.result.1 ≤ z.weekends = omega (arith, c.below-first.ensures.order, c.weekends.ensures.weekends) in
    let places : c.below-begin.result.1 ≤ z.assignments = omega (arith, c.below-begin.ensures.order, c.assignments-stride.ensures.assignments) in
    record {
      fits = subst (λ (b : Summary). fits_sizes z b ≡ true) is (weekends_fit z c.args.group w good.fits (omega (arith, c.loop-weekends-test.true, up_to)));
      without = ap (λ (b : Summary). b.assignments) (sym is) ∙ good.no_assignments;
      some_strips = c.strips_that_fit-strips.ensures.some;
      some_places = c.if-end-begin.false;
      weekends = omega (arith, ap (λ (b : Summary). b.weekends) (sym is), few, up_to);
      assignments = places;
      short = omega (arith, c.strips_that_fit-strips.ensures.places, ap (λ j. strips * j) c.assignments-stride.ensures.assignments);
      reachable = λ i b in_strips in_width.
          subst (λ (x : Summary). IsReachableOn day (span_state x begin i b)) is
          (place_reachable day c.args.group good (may_be at) (w + i) (begin + b) (omega (arith, in_strips, few, up_to)) (omega (arith, in_width, places))
          (goes_only (weekends_here at) (omega (arith, c.loop-weekends.invariant.begun)) (omega (arith, in_strips, few))) (goes_only (places_here at) (omega arith) (omega (arith, in_width))));
    }

pub label_strips-requires-clause-room : goal.label_strips-requires-clause-room
label_strips-requires-clause-room c =
    let long = length c.args.day.now.offers.now in
    let width = c.below-begin.result.1 - c.below-begin.result.0 in
    let first = c.below-first.result.0 in
    let w = c.loop-weekends.weekends in
    let strips = c.strips_that_fit-strips.result in
    let old = c.loop-weekends.invariant in
    let states = states_here (goal.at.label_strips-requires-clause-room c).After-below-first in
    let few : w + strips - first ≤ c.below-first.result.1 - first = omega (arith, c.strips_that_fit-strips.ensures.within, c.alike_strips-alike.ensures.within, c.loop-weekends-test.true) in
    let most = mul-le (w + strips - first) width (c.below-first.result.1 - first) width few (omega arith) in
    let all = mul-le long ((w + strips - first) * width) long (states_with c.args.day.now.days.search.case.now c.args.day.now.days.search.nurse c.args.day.now.boxes.now c.args.group) (omega arith) (omega (arith, most, states)) in
    omega (arith, old.counted, strips_counted long first w strips width old.begun, all, c.requires.room)

pub loop-weekends-preserved : goal.loop-weekends-preserved
loop-weekends-preserved c =
    let day = c.args.day.now in
    let z = day.days.ranges in
    let group = c.args.group in
    let good = c.requires.group in
    let begin = c.below-begin.result.0 in
    let end = c.below-begin.result.1 in
    let old = c.loop-weekends.invariant in
    let w = c.loop-weekends.weekends in
    let strips = c.strips_that_fit-strips.result in
    let e = c.label_strips.ensures in
    let is = sym c.with_weekends-block.ensures in
    let few : w + strips ≤ c.below-first.result.1 = omega (arith, c.strips_that_fit-strips.ensures.within, c.alike_strips-alike.ensures.within, c.loop-weekends-test.true) in
    let up_to : w + strips ≤ z.weekends = omega (arith, few, c.below-first.ensures.order, c.weekends.ensures.weekends) in
    let places : end ≤ z.assignments = omega (arith, c.below-begin.ensures.order, c.assignments-stride.ensures.assignments) in
    let code_is : code_of z c.with_weekends-block.result ≡ code_of z group + w * z.assignments = ap (code_of z) (sym is) ∙ code_block z group good.no_weekends good.no_assignments w in
    let within : (w + strips) * z.assignments ≤ z.weekends * z.assignments = mul-le (w + strips) z.assignments z.weekends z.assignments up_to (omega arith) in
    record {
      begun = omega (arith, old.begun);
      inside = few;
      least = group_more day group begin end c.below-first.result.0 w strips places c.loop-weekends.labels c.loop-weekends.pointers c.label_strips.new.labels c.label_strips.new.pointers old.least c.with_weekends-block.result is code_is e.put.outside e.put.least;
      outside = tables_then old.outside (tables_wider e.put.outside (code_of z group) (z.weekends * z.assignments) (omega (arith, code_is)) (omega (arith, code_is, within)));
      counted = omega (arith, old.counted, e.counted, strips_counted (length day.offers.now) c.below-first.result.0 w strips (end - begin) old.begun);
    }

-- ---- after the last strip

pub returns-clause-tables : goal.returns-clause-tables
returns-clause-tables c =
    let at = (goal.at.returns-clause-tables c).After-below-first in
    group_tables c.args.day.now c.args.group c.requires.group.no_weekends c.requires.group.no_assignments (weekends_here at) (places_here at) c.loop-weekends.weekends (omega (arith, c.loop-weekends-test.false)) c.loop-weekends.labels c.loop-weekends.pointers c.loop-weekends.invariant.least

pub returns-clause-exactly : goal.returns-clause-exactly
returns-clause-exactly c =
    let first = c.below-first.result.0 in
    let width = c.below-begin.result.1 - c.below-begin.result.0 in
    let long = length c.args.day.now.offers.now in
    let at_end : c.loop-weekends.weekends ≡ c.below-first.result.1 = omega (arith, c.loop-weekends.invariant.inside, c.loop-weekends-test.false) in
    let states = ap (λ j. (j - first) * width) at_end ∙ states_here (goal.at.returns-clause-exactly c).After-below-first in
    c.loop-weekends.invariant.counted ∙ ap (λ j. c.args.meter.now + j) (mul_comm long ((c.loop-weekends.weekends - first) * width)) ∙ ap (λ j. c.args.meter.now + j * long) states
