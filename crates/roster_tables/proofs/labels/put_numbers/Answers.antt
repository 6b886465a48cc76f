use Rattle.std.proofs.Common.{◌≡◌, ◌∙◌, ◌+◌, ◌-◌, ◌*◌, ◌<◌, ap, arith, inl, inr, slice_index_or, subst}
use Rattle.roster_state.specs.Codes.{code_of}
use Rattle.roster_tables.proofs.CellLaws.{outside_wider}
use Rattle.roster_tables.proofs.SpanLaws.{AreConsecutive, count_within, in_span, strips_in_table, strips_kept, strip_place}
use Rattle.roster_tables.proofs.labels.put_numbers.Goals as goal
use Rattle.roster_tables.proofs.labels.put_numbers.Goals.{Joined-then-span-eq1, then-span-eq1-via-then-span-eq1, then-span-eq1-via-else-span-eq1+then-span-stride}

-- ---- one strip alone, or strips that touch

consecutive : (c : Joined-then-span-eq1) → AreConsecutive c.args.span.now.strips (c.args.span.now.end - c.args.span.now.begin) c.args.day.now.days.ranges.assignments
consecutive c =
    elim c.then-span-eq1.branch [
      | then-span-eq1-via-then-span-eq1 w ↦ inl (omega (arith, w.if-span-eq1.true))
      | then-span-eq1-via-else-span-eq1+then-span-stride w ↦ inr (omega (arith, w.if-span-stride.true, c.assignments-stride.ensures.assignments))
    ]

pub set_cells-requires-clause-within : goal.set_cells-requires-clause-within
set_cells-requires-clause-within c =
    let good = c.requires.span in
    omega (arith, c.requires.numbers, count_within good, strips_in_table good, c.requires.first, c.requires.capacity)

pub set_cells-requires-clause-small : goal.set_cells-requires-clause-small
set_cells-requires-clause-small c j below =
    let good = c.requires.span in
    let span = c.args.span.now in
    let at = strip_place span.strips (span.end - span.begin) c.args.day.now.days.ranges.assignments j good.some_strips (omega (arith, good.some_places)) (consecutive (goal.at.set_cells-requires-clause-small c).Joined-then-span-eq1) (omega (arith, below, c.requires.numbers)) in
    subst (λ k. slice_index_or c.args.numbers.now k 0 < 16) at.is (c.requires.small at.strip at.place at.in_strips at.inside)

pub returns-then-span-eq1 : goal.returns-then-span-eq1
returns-then-span-eq1 c =
    let day = c.args.day.now in
    let good = c.requires.span in
    let span = c.args.span.now in
    let stride = day.days.ranges.assignments in
    let pointers = c.set_cells.new.self in
    let code = day.first + code_of day.days.ranges span.block in
    let code_is = c.requires.first in
    record {
      put = record {
        inside = λ i b in_strips in_width.
            let there : code + span.begin + (i * stride + b) ≡ day.first + (c.args.first + span.begin) + (i * stride + b) = omega (arith, code_is) in
            ap (λ k. slice_index_or pointers k 0) there ∙ c.set_cells.ensures.inside (i * stride + b) (omega (arith, in_span span.strips (span.end - span.begin) stride i b in_strips in_width, c.requires.numbers));
        kept = strips_kept span.strips stride span.begin span.end code good.some_places good.assignments (consecutive (goal.at.returns-then-span-eq1 c).Joined-then-span-eq1) c.args.pointers.now pointers
            (outside_wider _ _ _ _ c.args.pointers.now pointers (omega (arith, code_is)) (omega (arith, code_is, c.requires.numbers)) c.set_cells.ensures.others);
        outside = record {
          others = outside_wider _ _ _ _ c.args.pointers.now pointers (omega (arith, code_is)) (omega (arith, code_is, c.requires.numbers, count_within good)) c.set_cells.ensures.others;
          length_stays = c.set_cells.ensures.length;
        };
      };
    }
