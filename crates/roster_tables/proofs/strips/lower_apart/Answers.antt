use Rattle.std.proofs.Common.{◌≡◌, ◌∙◌, ◌+◌, ◌-◌, ◌*◌, ◌%◌, ◌^◌, ◌<◌, ◌≤◌, ℕ, ap, arith, length, min, slice_index_or}
use Rattle.std.proofs.lemmas.List.Edits.{get_or-between, length-between}
use Rattle.std.specs.List.{between}
use Rattle.roster_lanes.specs.Lanes.{pointer_by, raised}
use Rattle.roster_tables.proofs.PartLaws.{part_put}
use Rattle.roster_tables.proofs.StripLaws.{between_more, done_more, rest_more, strip_within}
use Rattle.roster_tables.proofs.strips.lower_apart.Goals as goal

pub strips-preserved : goal.strips-preserved
strips-preserved c =
    let shape = c.args.shape in
    let apart = c.requires.strips.apart in
    let strip = c.strips.strip in
    let at = strip * shape.stride in
    let old = c.strips.invariant in
    let labels = c.strips.labels in
    let numbers = c.strips.numbers in
    let width : at + shape.width - at ≡ shape.width = omega arith in
    let within = strip_within c.requires.strips strip c.strips-test.true in
    let in_labels : at + shape.width ≤ length labels = omega (arith, within, old.lengths.of_labels) in
    let in_numbers : at + shape.width ≤ length numbers = omega (arith, within, old.lengths.of_numbers, c.requires.numbers) in
    let wide = length-between labels at (at + shape.width) in_labels ∙ width in
    let wide_numbers = length-between numbers at (at + shape.width) in_numbers ∙ width in
    let others = c.args.others.now in
    let more = c.args.more in
    let old_labels = c.args.labels.now in
    let old_numbers = c.args.numbers.now in
    let long = c.lower_all.ensures.lengths.0 ∙ wide in
    let long_numbers = c.lower_all.ensures.lengths.1 ∙ wide_numbers in
    let put = part_put at shape.width labels c.lower_all.new.labels long in_labels in
    let put_numbers = part_put at shape.width numbers c.lower_all.new.pointers long_numbers in_numbers in
    let label_is : (b : ℕ) → b < shape.width → slice_index_or (between at (at + shape.width) labels) b 0 ≡ slice_index_or old_labels (at + b) 0 =
    λ b inside. get_or-between labels at (at + shape.width) b 0 (omega (arith, inside)) ∙ old.labels_rest (at + b) (omega arith) in
    let number_is : (b : ℕ) → b < shape.width → slice_index_or (between at (at + shape.width) numbers) b 0 ≡ slice_index_or old_numbers (at + b) 0 =
    λ b inside. get_or-between numbers at (at + shape.width) b 0 (omega (arith, inside)) ∙ old.numbers_rest (at + b) (omega arith) in
    let other_is : (b : ℕ) → b < shape.width → raised (between at (at + shape.width) others) more b ≡ raised others more (at + b) =
    λ b inside. ap (λ k. (k + more) % 2 ^ 32) (get_or-between others at (at + shape.width) b 0 (omega (arith, inside))) in
    record {
      labels = done_more shape apart strip long put (λ j label. label ≡ min (slice_index_or old_labels j 0) (raised others more j)) old.labels
          (λ b inside. c.lower_all.ensures.labels b (omega (arith, inside, wide)) ∙ (λ q. min (label_is b inside q) (other_is b inside q)));
      numbers = done_more shape apart strip long_numbers put_numbers (λ j number. number ≡ pointer_by (slice_index_or old_labels j 0) (raised others more j) (slice_index_or old_numbers j 0) c.args.number) old.numbers
          (λ b inside. c.lower_all.ensures.pointers b (omega (arith, inside, wide)) ∙ (λ q. pointer_by (label_is b inside q) (other_is b inside q) (number_is b inside q) c.args.number));
      labels_rest = rest_more shape apart strip long put old_labels old.labels_rest;
      numbers_rest = rest_more shape apart strip long_numbers put_numbers old_numbers old.numbers_rest;
      between = between_more shape apart strip long put old_labels old.between;
      lengths = record { of_labels = put.length_stays ∙ old.lengths.of_labels; of_numbers = put_numbers.length_stays ∙ old.lengths.of_numbers };
    }
