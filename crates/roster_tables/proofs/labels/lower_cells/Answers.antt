use Rattle.std.proofs.Common.{◌+◌, ◌-◌, ◌≡◌, ◌∙◌, arith, length, min, refl, slice_index_or, sym}
use Rattle.std.proofs.Math.Path.{transport}
use Rattle.std.proofs.lemmas.List.Edits.{get_or-between, length-between}
use Rattle.std.specs.List.{between}
use Rattle.roster_lanes.specs.Lanes.{pointer_by, raised}
use Rattle.roster_tables.specs.Strips.{AreStripsIn, StripCells}
use Rattle.roster_tables.proofs.SpanLaws.{count_short, strips_of, cells_refused, small_pointed, span_lowered}
use Rattle.roster_tables.proofs.labels.lower_cells.Goals as goal

pub lower_strips-requires-clause-strips : goal.lower_strips-requires-clause-strips
lower_strips-requires-clause-strips c = transport (λ q. AreStripsIn (sym c.requires.here.shape q) (length c.args.labels.now)) (strips_of c.requires.here.of_day c.requires.lengths.labels_length)

pub lower_strips-requires-clause-short : goal.lower_strips-requires-clause-short
lower_strips-requires-clause-short c = omega (arith, count_short c.requires.here.of_day, c.requires.lengths.labels_length)

pub lower_strips-requires-clause-numbers : goal.lower_strips-requires-clause-numbers
lower_strips-requires-clause-numbers c = c.requires.lengths.numbers_length ∙ sym c.requires.lengths.labels_length

pub lower_strips-requires-clause-others : goal.lower_strips-requires-clause-others
lower_strips-requires-clause-others c =
    let first = c.in-Some.by.0 in
    let count = length c.args.labels.now in
    let width : first + count - first ≡ count = omega arith in
    length-between c.args.day.now.later.now first (first + count) (omega (arith, c.in-Some.ensures.by.within, c.requires.lengths.labels_length)) ∙ width

pub returns-in-Some-clause-least : goal.returns-in-Some-clause-least
returns-in-Some-clause-least c =
    let first = c.in-Some.by.0 in
    let count = length c.args.labels.now in
    let old = c.requires.least in
    let shape = c.requires.here.shape in
    let others = between first (first + count) c.args.day.now.later.now in
    let more = c.in-Some.by.1 in
    let labels = transport (λ q. StripCells (shape q) (λ j label. label ≡ min (slice_index_or c.args.labels.now j 0) (raised others more j)) c.lower_strips.new.labels) c.lower_strips.ensures.labels in
    let numbers = transport (λ q. StripCells (shape q) (λ j number. number ≡ pointer_by (slice_index_or c.args.labels.now j 0) (raised others more j) (slice_index_or c.args.numbers.now j 0) c.args.place) c.lower_strips.new.numbers) c.lower_strips.ensures.numbers in
    record {
      cells = span_lowered c.in-Some.ensures.by c.requires.place c.args.labels.now c.args.numbers.now others c.lower_strips.new.labels c.lower_strips.new.numbers old.cells count c.requires.lengths.labels_length
          (λ j below. get_or-between c.args.day.now.later.now first (first + count) j 0 (omega (arith, below)))
          labels numbers;
      small = λ i b in_strips in_width. small_pointed _ _ _ _ c.args.place (omega (arith, c.args.day.now.ready.few, c.requires.place)) (old.small i b in_strips in_width) (numbers i b in_strips in_width);
    }

-- ---- if the offer is not allowed

pub returns-in_default-clause-least : goal.returns-in_default-clause-least
returns-in_default-clause-least c = record {
  cells = cells_refused c.args.day.now c.args.here.now.span c.args.place c.requires.place (c.in_default.ensures.none refl) c.args.labels.now c.args.numbers.now c.requires.least.cells;
  small = c.requires.least.small;
}
