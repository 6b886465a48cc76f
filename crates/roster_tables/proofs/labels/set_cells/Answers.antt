use Rattle.std.proofs.Common.{◌+◌, ◌-◌, ◌≡◌, ◌∙◌, ◌<◌, arith, length, min, refl, replicate, subst, sym}
use Rattle.std.proofs.Math.Path.{transport}
use Rattle.std.proofs.lemmas.List.{get_or-replicate}
use Rattle.std.proofs.lemmas.List.Edits.{get_or-between, length-between}
use Rattle.std.specs.List.{between}
use Rattle.roster_lanes.specs.Lanes.{raised}
use Rattle.roster_offers.specs.Lists.{no_row}
use Rattle.roster_tables.specs.Strips.{AreStripsIn, StripCells}
use Rattle.roster_tables.proofs.SpanLaws.{count_short, strips_of, cells_refused, span_set}
use Rattle.roster_tables.proofs.labels.set_cells.Goals as goal

pub set_strips-requires-clause-strips : goal.set_strips-requires-clause-strips
set_strips-requires-clause-strips c = transport (λ q. AreStripsIn (sym c.requires.here.shape q) (length c.args.labels.now)) (strips_of c.requires.here.of_day c.requires.lengths.labels_length)

pub set_strips-requires-clause-short : goal.set_strips-requires-clause-short
set_strips-requires-clause-short c = omega (arith, count_short c.requires.here.of_day, c.requires.lengths.labels_length)

pub set_strips-requires-clause-numbers : goal.set_strips-requires-clause-numbers
set_strips-requires-clause-numbers c = c.requires.lengths.numbers_length ∙ sym c.requires.lengths.labels_length

pub set_strips-requires-clause-others : goal.set_strips-requires-clause-others
set_strips-requires-clause-others c =
    let first = c.in-Some.by.0 in
    let count = length c.args.labels.now in
    let width : first + count - first ≡ count = omega arith in
    length-between c.args.day.now.later.now first (first + count) (omega (arith, c.in-Some.ensures.by.within, c.requires.lengths.labels_length)) ∙ width

pub returns-clause-least : goal.returns-clause-least
returns-clause-least c _ =
    let first = c.in-Some.by.0 in
    let count = length c.args.labels.now in
    let shape = c.requires.here.shape in
    let others = between first (first + count) c.args.day.now.later.now in
    let numbers = transport (λ q. StripCells (shape q) (λ j number. number ≡ c.args.place) c.set_strips.new.numbers) c.set_strips.ensures.numbers in
    let labels = transport (λ q. StripCells (shape q) (λ j label. label ≡ min (raised others c.in-Some.by.1 j) no_row) c.set_strips.new.labels) c.set_strips.ensures.labels in
    record {
      cells = span_set c.in-Some.ensures.by c.requires.place (replicate count no_row) (replicate count 0) others c.set_strips.new.labels c.set_strips.new.numbers c.requires.none count c.requires.lengths.labels_length
          (λ j below. get_or-between c.args.day.now.later.now first (first + count) j 0 (omega (arith, below)))
          (λ j below. get_or-replicate count j no_row 0 below)
          labels numbers;
      small = λ i b in_strips in_width. subst (λ k. k < 16) (sym (numbers i b in_strips in_width)) (omega (arith, c.args.day.now.ready.few, c.requires.place));
    }

-- ---- if the offer is not allowed

pub returns-in_default-clause-none : goal.returns-in_default-clause-none
returns-in_default-clause-none c _ =
    let count = length c.args.labels.now in
    cells_refused c.args.day.now c.args.here.now.span c.args.place c.requires.place (c.in_default.ensures.none refl) (replicate count no_row) (replicate count 0) c.requires.none
