use Rattle.std.proofs.Common.{◌≡◌, ◌∙◌, ◌-◌, ◌*◌, ◌+◌, ◌<◌, [], ap, arith, length, refl, subst, sym}
use Rattle.std.proofs.Math.Path.{transport}
use Rattle.std.proofs.lemmas.List.{get_or-replicate, take_all}
use Rattle.roster_state.specs.Spans.{span_state}
use Rattle.roster_offers.specs.Lists.{no_row}
use Rattle.roster_tables.specs.OpenDays.{CellsBy, best_with, states_of}
use Rattle.roster_tables.specs.Strips.{AreStripsIn, StripCells}
use Rattle.roster_tables.specs.Tables.{AreOfLeast}
use Rattle.roster_tables.proofs.CellLaws.{room_for_more}
use Rattle.roster_tables.proofs.LabelLaws.{least_of_none}
use Rattle.roster_tables.proofs.SpanLaws.{between_then, count_short, in_span, strips_of}
use Rattle.roster_tables.proofs.labels.label_cells.Goals.{then-is_set, else-is_set}
use Rattle.roster_tables.proofs.labels.label_cells.Goals as goal

pub lower_cells-requires-clause-room : goal.lower_cells-requires-clause-room
lower_cells-requires-clause-room c =
    room_for_more c.loop-place.place (length c.args.day.now.offers.now) (states_of c.args.span.now) c.args.meter.now c.loop-place.meter 18446744073709551615 c.loop-place-test.true c.loop-place.invariant.counted c.requires.room

pub set_cells-is_set-requires-clause-room : goal.set_cells-is_set-requires-clause-room
set_cells-is_set-requires-clause-room c =
    room_for_more c.loop-place.place (length c.args.day.now.offers.now) (states_of c.args.span.now) c.args.meter.now c.loop-place.meter 18446744073709551615 c.loop-place-test.true c.loop-place.invariant.counted c.requires.room

pub loop-place-init : goal.loop-place-init
loop-place-init c =
    let day = c.args.day.now in
    let span = c.args.span.now in
    let count = length c.args.labels.now in
    record {
      least = λ e. absurd cc;
      none = λ e i b in_strips in_width.
          let by = best_with day (span_state span.block span.begin i b) in
          let j = i * day.days.ranges.assignments + b in
          let there : j < count = omega (arith, in_span span.strips (span.end - span.begin) day.days.ranges.assignments i b in_strips in_width, c.requires.lengths.labels_length) in
          transport (λ q. AreOfLeast by [] (sym (get_or-replicate count j no_row 0 there) q) (sym (get_or-replicate count j 0 0 there) q)) (least_of_none by);
      between = λ i b wide inside. refl;
      lengths = record { of_labels = refl; of_numbers = refl };
      counted = omega arith;
    }

pub loop-place-preserved : goal.loop-place-preserved
loop-place-preserved c =
    let old = c.loop-place.invariant in
    elim c.if-is_set.branch [
      | then-is_set w ↦
          let is_set = w.is_set-is ∙ w.if-is_set.true in
          let e = w.lower_cells.ensures in
          rw (w.labels-is, w.numbers-is, w.meter-is, is_set) record {
            least = λ is. e.least;
            none = λ is. absurd cc;
            between = between_then c.strip_shape.ensures c.args.labels.now c.loop-place.labels w.lower_cells.new.labels e.between old.between;
            lengths = record { of_labels = e.lengths.of_labels ∙ old.lengths.of_labels; of_numbers = e.lengths.of_numbers ∙ old.lengths.of_numbers };
            counted = omega (arith, e.counted, old.counted);
          }
      | else-is_set w ↦
          let e = w.set_cells-is_set.ensures in
          rw (w.labels-is, w.numbers-is, w.meter-is, w.is_set-is) record {
            least = e.least;
            none = e.none;
            between = between_then c.strip_shape.ensures c.args.labels.now c.loop-place.labels w.set_cells-is_set.new.labels e.between old.between;
            lengths = record { of_labels = e.lengths.of_labels ∙ old.lengths.of_labels; of_numbers = e.lengths.of_numbers ∙ old.lengths.of_numbers };
            counted = omega (arith, e.counted, old.counted);
          }
    ]

-- ---- no offer is allowed

pub clear_strips-requires-clause-strips : goal.clear_strips-requires-clause-strips
clear_strips-requires-clause-strips c = transport (λ q. AreStripsIn (sym c.strip_shape.ensures q) (length c.loop-place.labels)) (strips_of c.requires.span (c.loop-place.invariant.lengths.of_labels ∙ c.requires.lengths.labels_length))

pub clear_strips-requires-clause-short : goal.clear_strips-requires-clause-short
clear_strips-requires-clause-short c = omega (arith, count_short c.requires.span, c.loop-place.invariant.lengths.of_labels, c.requires.lengths.labels_length)

pub clear_strips-requires-clause-numbers : goal.clear_strips-requires-clause-numbers
clear_strips-requires-clause-numbers c =
    let long = c.loop-place.invariant.lengths in
    long.of_numbers ∙ c.requires.lengths.numbers_length ∙ sym (long.of_labels ∙ c.requires.lengths.labels_length)

pub returns-then-not-is_set-clause-least : goal.returns-then-not-is_set-clause-least
returns-then-not-is_set-clause-least c i b in_strips in_width =
    let day = c.args.day.now in
    let span = c.args.span.now in
    let old = c.loop-place.invariant in
    let shape = c.strip_shape.ensures in
    let count = length c.loop-place.labels in
    let j = i * day.days.ranges.assignments + b in
    let below = in_span span.strips (span.end - span.begin) day.days.ranges.assignments i b in_strips in_width in
    let there : j < count = omega (arith, below, old.lengths.of_labels, c.requires.lengths.labels_length) in
    let cleared = transport (λ q. StripCells (shape q) (λ j label. label ≡ no_row) c.clear_strips.new.labels) c.clear_strips.ensures.labels in
    let zeros = transport (λ q. StripCells (shape q) (λ j number. number ≡ 0) c.clear_strips.new.numbers) c.clear_strips.ensures.numbers in
    let label = get_or-replicate count j no_row 0 there ∙ sym (cleared i b in_strips in_width) in
    let number = get_or-replicate count j 0 0 there ∙ sym (zeros i b in_strips in_width) in
    let all = take_all c.loop-place.place day.offers.now (omega (arith, c.loop-place-test.false)) in
    transport (λ q. AreOfLeast (best_with day (span_state span.block span.begin i b)) (all q) (label q) (number q)) (old.none c.if-not-is_set.true i b in_strips in_width)

pub returns-then-not-is_set-clause-small : goal.returns-then-not-is_set-clause-small
returns-then-not-is_set-clause-small c i b in_strips in_width =
    let zeros = transport (λ q. StripCells (c.strip_shape.ensures q) (λ j number. number ≡ 0) c.clear_strips.new.numbers) c.clear_strips.ensures.numbers in
    subst (λ k. k < 16) (sym (zeros i b in_strips in_width)) (omega arith)

pub returns-then-not-is_set-clause-between : goal.returns-then-not-is_set-clause-between
returns-then-not-is_set-clause-between c = between_then c.strip_shape.ensures c.args.labels.now c.loop-place.labels c.clear_strips.new.labels c.clear_strips.ensures.between c.loop-place.invariant.between

pub returns-then-not-is_set-clause-lengths : goal.returns-then-not-is_set-clause-lengths
returns-then-not-is_set-clause-lengths c =
    let old = c.loop-place.invariant.lengths in
    let new = c.clear_strips.ensures.lengths in
    record { of_labels = new.of_labels ∙ old.of_labels; of_numbers = new.of_numbers ∙ old.of_numbers }

-- ---- some is

pub returns-else-not-is_set-clause-least : goal.returns-else-not-is_set-clause-least
returns-else-not-is_set-clause-least c =
    let all = take_all c.loop-place.place c.args.day.now.offers.now (omega (arith, c.loop-place-test.false)) in
    transport (λ q. CellsBy c.args.day.now c.args.span.now (all q) c.loop-place.labels c.loop-place.numbers) (c.loop-place.invariant.least c.if-not-is_set.false).cells

pub returns-else-not-is_set-clause-small : goal.returns-else-not-is_set-clause-small
returns-else-not-is_set-clause-small c = (c.loop-place.invariant.least c.if-not-is_set.false).small

-- ---- how many were counted

pub returns-then-not-is_set-clause-counted : goal.returns-then-not-is_set-clause-counted
returns-then-not-is_set-clause-counted c =
    let every : c.loop-place.place ≡ length c.args.day.now.offers.now = omega (arith, c.loop-place-test.false, c.loop-place.auto.place-end) in
    c.loop-place.invariant.counted ∙ ap (λ j. c.args.meter.now + j * states_of c.args.span.now) every

pub returns-else-not-is_set-clause-counted : goal.returns-else-not-is_set-clause-counted
returns-else-not-is_set-clause-counted c =
    let every : c.loop-place.place ≡ length c.args.day.now.offers.now = omega (arith, c.loop-place-test.false, c.loop-place.auto.place-end) in
    c.loop-place.invariant.counted ∙ ap (λ j. c.args.meter.now + j * states_of c.args.span.now) every
