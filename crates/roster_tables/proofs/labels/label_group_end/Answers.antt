use Rattle.std.proofs.Common.{◌≡◌, ◌∙◌, ◌+◌, ◌*◌, ◌<◌, ℕ, ap, arith, min, slice_index_or, subst, sym}
use Rattle.roster_rules.specs.Prefix.{Summary}
use Rattle.roster_state.specs.declared.state_box.StateBox.{StateBox}
use Rattle.roster_state.specs.Boxes.{box_at}
use Rattle.roster_state.specs.Codes.{Sizes, code_of, shift_digit, sizes_of}
use Rattle.roster_state.specs.Transition.{with_assignments, with_weekends}
use Rattle.roster_state.proofs.CodeLemmas.{fits-all}
use Rattle.roster_tables.specs.Tables.{best_at_end, label_of}
use Rattle.roster_tables.proofs.CellLaws.{rest_same, rest_then, rest_wider}
use Rattle.roster_tables.proofs.CountLaws.{Goes}
use Rattle.roster_tables.proofs.GroupLaws.{code_block, like_fits, like_weekends, cells_of_weekends, weekends_within}
use Rattle.roster_tables.proofs.labels.label_group_end.Goals as goal
use Rattle.roster_tables.proofs.labels.label_group_end.Goals.{After-below-first}

-- the numbers of weekends of the loop
weekends_here : (c : After-below-first) → Goes (box_at c.args.boxes.now (shift_digit c.args.group.last)).weekends (sizes_of c.args.days.now.search.case.now c.args.days.now.search.nurse).weekends c.below-first.result.0 c.below-first.result.1
weekends_here c =
    let is = c.box_of-state_box.ensures ∙ ap (box_at c.args.boxes.now) c.last_number.ensures.number in
    let size = c.weekends.ensures.weekends ∙ ap (λ (z : Sizes). z.weekends) c.args.days.now.own_ranges in
    record { end_is = c.below-first.ensures.end ∙ (λ i. min ((is i).weekends.greatest + 1) (size i)); begin_is = c.below-first.ensures.first ∙ ap (λ (x : StateBox). min x.weekends.least c.below-first.result.1) is }

pub box_of-state_box-requires : goal.box_of-state_box-requires
box_of-state_box-requires c =
    omega (arith, c.last_number.ensures, (fits-all c.args.days.now.ranges c.args.group c.requires.fits).last, ap (λ (z : Sizes). z.last) c.args.days.now.own_ranges, c.keeps_limits.ensures.shifts)

pub loop-weekends-init : goal.loop-weekends-init
loop-weekends-init c = record {
  labels = λ s which. absurd (omega (arith, (like_weekends which.0 (weekends_here (goal.at.loop-weekends-init c).After-below-first)).0, which.1));
  outside = rest_same _ _ c.args.labels.now;
}

pub loop-weekends-preserved : goal.loop-weekends-preserved
loop-weekends-preserved c =
    let days = c.args.days.now in
    let k = days.search.case.now in
    let n = days.search.nurse in
    let z = days.ranges in
    let group = c.args.group in
    let r = c.requires in
    let old = c.loop-weekends.invariant in
    let e = c.label_block_end.ensures in
    let w = c.loop-weekends.weekends in
    let is : with_weekends group w ≡ c.with_weekends-block.result = sym c.with_weekends-block.ensures in
    let code_is : code_of z c.with_weekends-block.result ≡ code_of z group + w * z.assignments = ap (code_of z) (sym is) ∙ code_block z group r.no_weekends r.no_assignments w in
    let inside : w < z.weekends = omega (arith, c.loop-weekends-test.true, c.below-first.ensures.order, c.weekends.ensures.weekends) in
    let within = weekends_within w z.weekends z.assignments inside in
    let set : (a : ℕ) → a < z.assignments → slice_index_or c.label_block_end.new.labels (code_of z group + w * z.assignments + a) 0 ≡ label_of (best_at_end k n days.search.scale (with_assignments (with_weekends group w) a)) =
    λ a below. subst (λ j. slice_index_or c.label_block_end.new.labels (j + a) 0 ≡ label_of (best_at_end k n days.search.scale (with_assignments (with_weekends group w) a))) code_is
    (subst (λ (b : Summary). slice_index_or c.label_block_end.new.labels (code_of z c.with_weekends-block.result + a) 0 ≡ label_of (best_at_end k n days.search.scale (with_assignments b a))) (sym is) (e.labels a below)) in
    record {
      labels = cells_of_weekends k n c.args.boxes.now group z days.own_ranges r.no_weekends r.no_assignments (λ s label. label ≡ label_of (best_at_end k n days.search.scale s)) (λ code. code) c.loop-weekends.labels c.label_block_end.new.labels w 0 z.assignments
          (λ j low. e.outside.others.before j (omega (arith, low, code_is))) (λ a low below. set a below)
          (λ s like. (omega arith, omega (arith, (like_fits like).assignments, ap (λ (y : Sizes). y.assignments) days.own_ranges))) old.labels;
      outside = rest_then old.outside (rest_wider e.outside _ _ (omega (arith, code_is)) (omega (arith, code_is, within)));
    }

pub returns-clause-labels : goal.returns-clause-labels
returns-clause-labels c s like = c.loop-weekends.invariant.labels s (like, omega (arith, (like_weekends like (weekends_here (goal.at.returns-clause-labels c).After-below-first)).1, c.loop-weekends-test.false))
