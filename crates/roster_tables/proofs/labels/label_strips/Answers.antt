use Rattle.std.proofs.Common.{◌≡◌, ◌∙◌, ◌+◌, ◌-◌, ◌*◌, ℕ, ap, arith, length, refl, subst}
use Rattle.roster_tables.specs.OpenDays.{IsPut, span_extensions}
use Rattle.roster_tables.proofs.CellLaws.{tables_same, tables_then}
use Rattle.roster_tables.proofs.SpanLaws.{kept_more, part_of, places_counted, places_more, places_room}
use Rattle.roster_tables.proofs.labels.label_strips.Goals as goal

-- nothing is counted if there are no places
none_counted : (long strips begin before : ℕ) → before ≡ before + long * (strips * (begin - begin))
none_counted long strips begin before =
    let none : 0 ≡ begin - begin = omega arith in
    let same : before ≡ before + long * (strips * 0) = omega arith in
    same ∙ ap (λ j. before + long * (strips * j)) none

pub loop-begin-init : goal.loop-begin-init
loop-begin-init c = record {
  begun = omega arith;
  inside = omega (arith, c.requires.span.some_places);
  put = record {
    least = λ i a in_strips low high. absurd (omega (arith, low, high));
    labels_kept = λ i a in_strips inside outside. refl;
    pointers_kept = λ i a in_strips inside outside. refl;
    outside = tables_same c.args.day.now _ _ c.args.labels.now c.args.pointers.now;
  };
  counted = none_counted (length c.args.day.now.offers.now) c.args.span.now.strips c.args.span.now.begin c.args.meter.now;
}

pub label_span-requires-clause-span : goal.label_span-requires-clause-span
label_span-requires-clause-span c = part_of c.requires.span c.loop-begin.begin c.alike_end-end.result (omega (arith, c.loop-begin.invariant.begun)) c.alike_end-end.ensures.some c.alike_end-end.ensures.within

pub label_span-requires-clause-room : goal.label_span-requires-clause-room
label_span-requires-clause-room c =
    let span = c.args.span.now in
    let long = length c.args.day.now.offers.now in
    let old = c.loop-begin.invariant in
    let sum = places_counted long span.strips span.begin c.loop-begin.begin c.alike_end-end.result old.begun c.alike_end-end.ensures.some in
    omega (arith, old.counted, sum, places_room long span.strips span.begin c.alike_end-end.result span.end c.args.meter.now 18446744073709551615 c.alike_end-end.ensures.within c.requires.room)

pub loop-begin-preserved : goal.loop-begin-preserved
loop-begin-preserved c =
    let day = c.args.day.now in
    let span = c.args.span.now in
    let old = c.loop-begin.invariant in
    let begin = c.loop-begin.begin in
    let to = c.alike_end-end.result in
    let put = c.label_span.ensures.put in
    let new = c.label_span.new in
    let more = c.alike_end-end.ensures.some in
    record {
      begun = omega (arith, old.begun, more);
      inside = c.alike_end-end.ensures.within;
      put = record {
        least = places_more day span begin to c.loop-begin.labels c.loop-begin.pointers new.labels new.pointers old.put.least (omega (arith, old.inside, c.requires.span.assignments)) put.labels_kept put.pointers_kept put.least;
        labels_kept = kept_more day span begin to _ old.begun (omega (arith, more)) c.args.labels.now c.loop-begin.labels new.labels old.put.labels_kept put.labels_kept;
        pointers_kept = kept_more day span begin to _ old.begun (omega (arith, more)) c.args.pointers.now c.loop-begin.pointers new.pointers old.put.pointers_kept put.pointers_kept;
        outside = tables_then old.put.outside put.outside;
      };
      counted = omega (arith, old.counted, c.label_span.ensures.counted, places_counted (length day.offers.now) span.strips span.begin begin to old.begun more);
    }

pub returns-clause-put : goal.returns-clause-put
returns-clause-put c =
    let at_end : c.loop-begin.begin ≡ c.args.span.now.end = omega (arith, c.loop-begin.invariant.inside, c.loop-begin-test.false) in
    subst (λ k. IsPut c.args.day.now (record c.args.span.now { end = k }) c.args.labels.now c.loop-begin.labels c.args.pointers.now c.loop-begin.pointers) at_end c.loop-begin.invariant.put

pub returns-clause-counted : goal.returns-clause-counted
returns-clause-counted c =
    let at_end : c.loop-begin.begin ≡ c.args.span.now.end = omega (arith, c.loop-begin.invariant.inside, c.loop-begin-test.false) in
    c.loop-begin.invariant.counted ∙ ap (λ k. c.args.meter.now + span_extensions c.args.day.now (record c.args.span.now { end = k })) at_end
