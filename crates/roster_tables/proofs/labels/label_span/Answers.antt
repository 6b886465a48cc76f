use Rattle.std.proofs.Common.{ℕ, ◌≡◌, ◌∙◌, ◌-◌, ◌*◌, ◌+◌, ap, arith, get_or, length, sym}
use Rattle.std.proofs.lemmas.List.{length-take-le}
use Rattle.std.proofs.lemmas.List.Edits.{get_or-between, length-between}
use borrow.Rule.Slice.PartMut.{put_mid}
use Rattle.roster_state.specs.Codes.{code_of}
use Rattle.roster_tables.specs.Halves.{IsWritten}
use Rattle.roster_tables.proofs.CellLaws.{outside_wider}
use Rattle.roster_tables.proofs.PartLaws.{front_length, part_put}
use Rattle.roster_tables.proofs.SpanLaws.{count_is, count_within, in_buffer, in_span, in_table, list_kept, span_moved}
use Rattle.roster_tables.proofs.labels.label_span.Goals as goal
use Rattle.roster_tables.proofs.labels.label_span.Goals.{After-label_cells}

pub slice_bounds-label_cells-end : goal.slice_bounds-label_cells-end
slice_bounds-label_cells-end c = in_table c.requires.span c.first-first.ensures.first c.assignments.ensures.assignments c.requires.tables.labels_capacity

pub slice_bounds-numbers-end : goal.slice_bounds-numbers-end
slice_bounds-numbers-end c = in_buffer c.requires.span c.assignments.ensures.assignments c.requires.numbers_capacity

pub slice_bounds-numbers-end-2 : goal.slice_bounds-numbers-end-2
slice_bounds-numbers-end-2 c = sym (length-take-le _ c.args.numbers.now (in_buffer c.requires.span c.assignments.ensures.assignments c.requires.numbers_capacity))

pub label_cells-requires-clause-lengths : goal.label_cells-requires-clause-lengths
label_cells-requires-clause-lengths c =
    let good = c.requires.span in
    let is = c.assignments.ensures.assignments in
    let span = c.args.span.now in
    let code = c.first-first.result + span.begin in
    let long = (span.strips - 1) * c.assignments.result + (span.end - span.begin) in
    let width : code + long - code ≡ long = omega arith in
    record {
      labels_length = length-between c.args.labels.now code (code + long) (in_table good c.first-first.ensures.first is c.requires.tables.labels_capacity) ∙ width ∙ count_is good is;
      numbers_length = length-take-le _ c.args.numbers.now (in_buffer good is c.requires.numbers_capacity) ∙ count_is good is;
    }

-- the lists that were labelled: how long they are, and where the labels are
record Labelled (c : After-label_cells) (code long : ℕ) : Type 0 where
  numbers : length c.label_cells.new.numbers ≡ long
  labels : length c.label_cells.new.labels ≡ long
  put : IsWritten code c.label_cells.new.labels c.args.labels.now (put_mid code (code + long - code) c.args.labels.now c.label_cells.new.labels)

labelled : (c : After-label_cells) → Labelled c (c.first-first.result + c.args.span.now.begin) ((c.args.span.now.strips - 1) * c.assignments.result + (c.args.span.now.end - c.args.span.now.begin))
labelled c =
    let good = c.requires.span in
    let is = c.assignments.ensures.assignments in
    let span = c.args.span.now in
    let code = c.first-first.result + span.begin in
    let long = (span.strips - 1) * c.assignments.result + (span.end - span.begin) in
    let capacity = in_table good c.first-first.ensures.first is c.requires.tables.labels_capacity in
    let width : code + long - code ≡ long = omega arith in
    let labels = c.label_cells.ensures.lengths.of_labels ∙ length-between c.args.labels.now code (code + long) capacity ∙ width in
    record {
      numbers = c.label_cells.ensures.lengths.of_numbers ∙ length-take-le _ c.args.numbers.now (in_buffer good is c.requires.numbers_capacity);
      labels = labels;
      put = part_put code long c.args.labels.now c.label_cells.new.labels labels capacity;
    }

pub put_numbers-requires-clause-numbers : goal.put_numbers-requires-clause-numbers
put_numbers-requires-clause-numbers c = (labelled (goal.at.put_numbers-requires-clause-numbers c).After-label_cells).numbers ∙ count_is c.requires.span c.assignments.ensures.assignments

pub returns-clause-put : goal.returns-clause-put
returns-clause-put c =
    let day = c.args.day.now in
    let span = c.args.span.now in
    let good = c.requires.span in
    let stride = day.days.ranges.assignments in
    let done = labelled (goal.at.returns-clause-put c).After-label_cells in
    let is = count_is good c.assignments.ensures.assignments in
    let code_is = c.first-first.ensures.first in
    let code = c.first-first.result + span.begin in
    let long = (span.strips - 1) * c.assignments.result + (span.end - span.begin) in
    let put = c.put_numbers.ensures.put in
    let labels : ℕ → ℕ = λ k. get_or (put_mid code (code + long - code) c.args.labels.now c.label_cells.new.labels) k 0 in
    let kept = list_kept stride span.begin span.end c.first-first.result good.assignments good.some_places _ c.label_cells.new.labels c.args.labels.now _ done.put
    (λ j below. get_or-between c.args.labels.now code (code + long) j 0 (omega (arith, below, done.labels))) c.label_cells.ensures.between in
    record {
      least = span_moved day span c.label_cells.new.labels c.label_cells.new.numbers _ c.put_numbers.new.pointers
          (λ i b in_strips in_width.
          let below = in_span span.strips (span.end - span.begin) stride i b in_strips in_width in
          let there : code_of day.days.ranges span.block + span.begin + (i * stride + b) ≡ code + (i * stride + b) = omega (arith, code_is) in
          ap labels there ∙ done.put.inside (i * stride + b) (omega (arith, below, done.labels, is)))
          put.inside c.label_cells.ensures.least;
      labels_kept = λ i a in_strips inside outside.
          let there : code_of day.days.ranges span.block + (i * stride + a) ≡ c.first-first.result + (i * stride + a) = omega (arith, code_is) in
          ap labels there ∙ kept i a inside outside ∙ ap (λ k. get_or c.args.labels.now k 0) (sym there);
      pointers_kept = put.kept;
      outside = record {
        of_labels = record { others = outside_wider _ _ _ _ _ _ (omega (arith, code_is)) (omega (arith, code_is, done.labels, count_within good, is)) done.put.others; length_stays = done.put.length_stays };
        of_pointers = put.outside;
      };
    }

pub returns-clause-numbers : goal.returns-clause-numbers
returns-clause-numbers c =
    let done = labelled (goal.at.returns-clause-numbers c).After-label_cells in
    front_length c.label_cells.new.numbers c.args.numbers.now _ done.numbers (in_buffer c.requires.span c.assignments.ensures.assignments c.requires.numbers_capacity)

-- ---- the sums fit

pub overflow_mul-between : goal.overflow_mul-between
overflow_mul-between c = omega (arith, in_buffer c.requires.span {long = 1000} c.assignments.ensures.assignments (omega arith))

pub overflow_add-count : goal.overflow_add-count
overflow_add-count c = omega (arith, in_buffer c.requires.span {long = 1000} c.assignments.ensures.assignments (omega arith))
