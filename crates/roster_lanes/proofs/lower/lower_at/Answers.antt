use Rattle.std.proofs.Common.{◌≡◌, ◌+◌, ◌-◌, ◌<◌, ap, ◌∙◌, arith, take, drop, slice_index_or}
use Rattle.std.proofs.lemmas.Grind.{common_steps, elements}
use Rattle.std.proofs.lemmas.Simd.{get_or-chunk}
use Rattle.roster_lanes.specs.declared.lower.TheConstants.{LANES}
use Rattle.roster_lanes.specs.Lanes.{raised}
use Rattle.roster_lanes.proofs.LaneLemmas.{stays}
use Rattle.roster_lanes.proofs.lower.lower_at.Goals as goal

pub returns-then-lower_labels-ne0-clause-labels : goal.returns-then-lower_labels-ne0-clause-labels
returns-then-lower_labels-ne0-clause-labels c = grind (arith, elements) steps 2000000

pub returns-then-lower_labels-ne0-clause-pointers : goal.returns-then-lower_labels-ne0-clause-pointers
returns-then-lower_labels-ne0-clause-pointers c = grind (arith, elements) steps 2000000

pub returns-then-lower_labels-ne0-clause-labels_others : goal.returns-then-lower_labels-ne0-clause-labels_others
returns-then-lower_labels-ne0-clause-labels_others c = grind (arith, common_steps) steps 2000000

pub returns-then-lower_labels-ne0-clause-pointers_others : goal.returns-then-lower_labels-ne0-clause-pointers_others
returns-then-lower_labels-ne0-clause-pointers_others c = grind (arith, common_steps) steps 2000000

pub returns-else-lower_labels-ne0-clause-labels : goal.returns-else-lower_labels-ne0-clause-labels
returns-else-lower_labels-ne0-clause-labels c = grind (arith, elements) steps 2000000

pub returns-else-lower_labels-ne0-clause-labels_others : goal.returns-else-lower_labels-ne0-clause-labels_others
returns-else-lower_labels-ne0-clause-labels_others c = grind (arith, common_steps) steps 2000000

pub returns-else-lower_labels-ne0-clause-pointers : goal.returns-else-lower_labels-ne0-clause-pointers
returns-else-lower_labels-ne0-clause-pointers c i from to =
    let first = c.args.first in
    let j = i - first in
    let lt : j < LANES = omega arith in
    let back : first + j ≡ i = omega arith in
    let candidate : slice_index_or c.raised_at-candidates.result j 0 ≡ raised c.args.others.now c.args.more i =
    c.raised_at-candidates.ensures j lt ∙ ap (raised c.args.others.now c.args.more) back in
    let label : slice_index_or (take (first + LANES - first) (drop first c.args.labels.now)) j 0 ≡ slice_index_or c.args.labels.now i 0 =
    get_or-chunk first (first + LANES - first) c.args.labels.now j 0 (omega arith) ∙ ap (λ k. slice_index_or c.args.labels.now k 0) back in
    stays c.lower_labels.result j _ _ _ _ (slice_index_or c.args.pointers.now i 0) c.args.pointer c.if-lower_labels-ne0.false (c.lower_labels.ensures.bits j lt) candidate label
