use Rattle.std.proofs.Common.{◌≡◌, ◌∙◌, ◌+◌, ◌-◌, ◌*◌, ◌<◌, ◌≤◌, ℕ, ap, arith, refl, slice_index_or, subst, sym}
use Rattle.std.proofs.lemmas.List.Edits.{get_or-between, length-between}
use Rattle.roster_state.specs.Codes.{code_of, product}
use Rattle.roster_lanes.specs.Lanes.{SameOutside}
use Rattle.roster_tables.proofs.CellLaws.{outside_wider, rest_same, rest_then}
use Rattle.roster_tables.proofs.SpanLaws.{numbers_more, strip_in_places, strip_in_table, strip_is, strip_kept, strip_outside, strip_short}
use Rattle.roster_tables.proofs.labels.put_apart.Goals as goal

pub slice_bounds-set_cells-end : goal.slice_bounds-set_cells-end
slice_bounds-set_cells-end c = omega (arith, strip_in_places c.requires.span c.strips-test.true c.assignments-stride.ensures.assignments, c.requires.numbers)

pub set_cells-requires-clause-within : goal.set_cells-requires-clause-within
set_cells-requires-clause-within c =
    let good = c.requires.span in
    let is = c.assignments-stride.ensures.assignments in
    let at = c.strips.strip * c.assignments-stride.result in
    let long = length-between c.args.numbers.now at (at + (c.args.span.now.end - c.args.span.now.begin)) (omega (arith, strip_in_places good c.strips-test.true is, c.requires.numbers)) in
    let inside : c.args.first + c.args.span.now.begin + at + (c.args.span.now.end - c.args.span.now.begin) ≤ product c.args.day.now.days.ranges = strip_in_table good c.strips-test.true is c.requires.first (omega arith) in
    omega (arith, long, inside, c.requires.capacity, c.strips.invariant.outside.length_stays)

pub set_cells-requires-clause-small : goal.set_cells-requires-clause-small
set_cells-requires-clause-small c i below =
    let good = c.requires.span in
    let is = c.assignments-stride.ensures.assignments in
    let at = c.strips.strip * c.assignments-stride.result in
    let width = c.args.span.now.end - c.args.span.now.begin in
    let long = length-between c.args.numbers.now at (at + width) (omega (arith, strip_in_places good c.strips-test.true is, c.requires.numbers)) in
    let inside : i < width = omega (arith, below, long) in
    let there = strip_is good c.strips-test.true is in
    subst (λ k. k < 16) (sym (get_or-between c.args.numbers.now at (at + width) i 0 (omega (arith, inside)) ∙ ap (λ k. slice_index_or c.args.numbers.now (k + i) 0) there)) (c.requires.small c.strips.strip i c.strips-test.true inside)

-- ---- one strip after another

pub strips-init : goal.strips-init
strips-init c = record {
  inside = λ i b none. absurd (omega (arith, none));
  kept = λ i a in_strips inside outside. refl;
  outside = rest_same _ _ c.args.pointers.now;
}

pub strips-preserved : goal.strips-preserved
strips-preserved c =
    let day = c.args.day.now in
    let size = day.days.ranges.assignments in
    let span = c.args.span.now in
    let good = c.requires.span in
    let in_strips = c.strips-test.true in
    let is = c.assignments-stride.ensures.assignments in
    let strip = c.strips.strip in
    let old = c.strips.invariant in
    let wide = span.end - span.begin in
    let at = strip * c.assignments-stride.result in
    let at_is = strip_is good in_strips is in
    let code = day.first + code_of day.days.ranges span.block in
    let code_is = c.requires.first in
    let long = length-between c.args.numbers.now at (at + wide) (omega (arith, strip_in_places good in_strips is, c.requires.numbers)) in
    let pointers = c.set_cells.new.self in
    let others : SameOutside (code + span.begin + strip * size) (code + span.begin + strip * size + wide) c.strips.pointers pointers =
    outside_wider _ _ _ _ c.strips.pointers pointers (omega (arith, at_is, code_is)) (omega (arith, at_is, code_is, long)) c.set_cells.ensures.others in
    let here : (b : ℕ) → b < wide → slice_index_or pointers (code + span.begin + (strip * size + b)) 0 ≡ slice_index_or c.args.numbers.now (strip * size + b) 0 =
    λ b inside.
    let there : code + span.begin + (strip * size + b) ≡ day.first + (c.args.first + span.begin) + at + b = omega (arith, at_is, code_is) in
    ap (λ k. slice_index_or pointers k 0) there ∙ c.set_cells.ensures.inside b (omega (arith, inside, long)) ∙ get_or-between c.args.numbers.now at (at + wide) b 0 (omega (arith, inside)) ∙ ap (λ k. slice_index_or c.args.numbers.now (k + b) 0) at_is in
    record {
      inside = numbers_more size span.begin span.end code strip c.args.numbers.now c.strips.pointers pointers good.assignments good.some_places others here old.inside;
      kept = λ i a i_in inside outside. strip_kept size span.begin span.end code strip c.strips.pointers pointers good.assignments others i a inside outside good.some_places ∙ old.kept i a i_in inside outside;
      outside = rest_then old.outside (strip_outside size span.begin span.end code strip c.strips.pointers pointers good.assignments others span.strips in_strips good.some_places c.set_cells.ensures.length);
    }

-- after the last strip

pub returns : goal.returns
returns c =
    let done = c.strips.invariant in
    record {
      put = record {
        inside = λ i b in_strips in_width. done.inside i b (omega (arith, in_strips, c.strips-test.false)) in_width;
        kept = done.kept;
        outside = done.outside;
      };
    }

-- ---- the sums fit

pub overflow_mul-at : goal.overflow_mul-at
overflow_mul-at c = omega (arith, strip_short c.requires.span c.strips-test.true c.assignments-stride.ensures.assignments {long = 1000} (omega arith))

pub overflow_add-at : goal.overflow_add-at
overflow_add-at c = omega (arith, strip_short c.requires.span c.strips-test.true c.assignments-stride.ensures.assignments {long = 1000} (omega arith))
