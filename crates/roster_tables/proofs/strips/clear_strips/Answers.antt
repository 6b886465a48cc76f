use Rattle.std.proofs.Common.{◌≡◌, ◌∙◌, ◌+◌, ◌-◌, ◌*◌, ◌≤◌, arith, length, refl}
use Rattle.std.proofs.lemmas.List.Edits.{length-between}
use Rattle.roster_offers.specs.Lists.{no_row}
use Rattle.roster_tables.proofs.PartLaws.{part_put}
use Rattle.roster_tables.proofs.StripLaws.{between_more, done_more, strip_within}
use Rattle.roster_tables.proofs.strips.clear_strips.Goals as goal

pub strips-preserved : goal.strips-preserved
strips-preserved c =
    let shape = c.args.shape in
    let apart = c.requires.strips.apart in
    let strip = c.strips.strip in
    let at = strip * shape.stride in
    let old = c.strips.invariant in
    let labels = c.strips.labels in
    let numbers = c.strips.numbers in
    let width : at + shape.width - at ≡ shape.width = omega arith in
    let within = strip_within c.requires.strips strip c.strips-test.true in
    let in_labels : at + shape.width ≤ length labels = omega (arith, within, old.lengths.of_labels) in
    let in_numbers : at + shape.width ≤ length numbers = omega (arith, within, old.lengths.of_numbers, c.requires.numbers) in
    let wide = length-between labels at (at + shape.width) in_labels ∙ width in
    let wide_numbers = length-between numbers at (at + shape.width) in_numbers ∙ width in
    let long = c.fill.auto.self ∙ wide in
    let long_numbers = c.fill-in-strips.auto.self ∙ wide_numbers in
    let put = part_put at shape.width labels c.fill.new.self long in_labels in
    let put_numbers = part_put at shape.width numbers c.fill-in-strips.new.self long_numbers in_numbers in
    record {
      labels = done_more shape apart strip long put (λ j label. label ≡ no_row) old.labels (λ b inside. c.fill.ensures.clones b 0 (omega (arith, inside, wide)) refl);
      numbers = done_more shape apart strip long_numbers put_numbers (λ j number. number ≡ 0) old.numbers (λ b inside. c.fill-in-strips.ensures.clones b 0 (omega (arith, inside, wide_numbers)) refl);
      between = between_more shape apart strip long put c.args.labels.now old.between;
      lengths = record { of_labels = put.length_stays ∙ old.lengths.of_labels; of_numbers = put_numbers.length_stays ∙ old.lengths.of_numbers };
    }
