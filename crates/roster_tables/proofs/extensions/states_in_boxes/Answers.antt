use Rattle.std.proofs.Common.{◌≡◌, ◌∙◌, ◌+◌, ℕ, suc, ap, arith, length}
use Rattle.std.proofs.lemmas.List.{get_or_default}
use Rattle.roster_instance.specs.Counting.{sum_below}
use Rattle.roster_state.specs.Boxes.{box_at, empty_box}
use Rattle.roster_tables.specs.Counts.{states_in}
use Rattle.roster_tables.proofs.MostLaws.{boxes_few}
use Rattle.roster_tables.proofs.extensions.states_in_boxes.Goals as goal
use Rattle.roster_tables.proofs.extensions.states_in_boxes.Goals.{After-states_in-states}

-- one more last shift
more : (c : After-states_in-states) → c.loop-last.states + c.states_in-states.result ≡ sum_below (c.loop-last.last + 1) (λ last. states_in c.args.ranges.now (box_at c.args.boxes.now last))
more c =
    let z = c.args.ranges.now in
    let boxes = c.args.boxes.now in
    let last = c.loop-last.last in
    let f : ℕ → ℕ = λ last. states_in z (box_at boxes last) in
    let long : length boxes ≡ 9 = omega arith in
    let state_box = get_or_default boxes last _ empty_box (omega (arith, long, c.loop-last-test.true, c.last-last-end.ensures.within)) in
    let here : c.states_in-states.result ≡ f last = c.states_in-states.ensures ∙ ap (states_in z) state_box in
    let next : suc last ≡ last + 1 = omega arith in
    omega (arith, c.loop-last.invariant, here, ap (λ m. sum_below m f) next)

pub overflow_add-states : goal.overflow_add-states
overflow_add-states c =
    let few = boxes_few c.args.ranges.now c.args.boxes.now (c.loop-last.last + 1) (omega (arith, c.loop-last-test.true, c.last-last-end.ensures.last)) in
    omega (arith, more (goal.at.overflow_add-states c).After-states_in-states, few, c.requires)

pub loop-last-preserved : goal.loop-last-preserved
loop-last-preserved c = more (goal.at.loop-last-preserved c).After-states_in-states
