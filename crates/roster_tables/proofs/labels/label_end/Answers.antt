use Rattle.std.proofs.Common.{◌≡◌, ◌∙◌, ◌+◌, ◌<◌, ap, arith, min, subst, sym, true}
use Rattle.roster_rules.specs.Prefix.{Summary}
use Rattle.roster_state.specs.declared.state_box.StateBox.{StateBox}
use Rattle.roster_state.specs.Boxes.{box_at}
use Rattle.roster_state.specs.Codes.{Sizes, code_of, fits_sizes, sizes_of}
use Rattle.roster_tables.specs.Days.{EndLabels}
use Rattle.roster_tables.specs.OpenDays.{KeepsRest, group_places}
use Rattle.roster_tables.specs.Tables.{IsReachableLike}
use Rattle.roster_tables.proofs.CountLaws.{Goes, goes_within}
use Rattle.roster_tables.proofs.DayLaws.{FewRuns, before_all, before_first_run, before_first_shift_run, after_last_run, after_last_shift_run, end_more, end_on, few_of, group_fits, group_key}
use Rattle.roster_tables.proofs.labels.label_end.Goals as goal
use Rattle.roster_tables.proofs.labels.label_end.Goals.{After-below-first_run, After-below-first_shift_run, After-shift_run-shift_runs}

-- the runs are few
few_here : (c : After-shift_run-shift_runs) → FewRuns (sizes_of c.args.days.now.search.case.now c.args.days.now.search.nurse)
few_here c = few_of c.args.days.now.ranges _ c.run-runs.result c.shift_run-shift_runs.result c.args.days.now.own_ranges c.run-runs.ensures.run c.run-runs.ensures.within c.shift_run-shift_runs.ensures.shift_run c.shift_run-shift_runs.ensures.within

-- the loops' runs, and the runs of the shift
runs_here : (c : After-below-first_run) → Goes (box_at c.args.boxes.now c.loop-last.last).run (sizes_of c.args.days.now.search.case.now c.args.days.now.search.nurse).run c.below-first_run.result.0 c.below-first_run.result.1
runs_here c =
    let is = c.box_of-state_box.ensures in
    let size = c.run-runs.ensures.run ∙ ap (λ (y : Sizes). y.run) c.args.days.now.own_ranges in
    record { end_is = c.below-first_run.ensures.end ∙ (λ i. min ((is i).run.greatest + 1) (size i)); begin_is = c.below-first_run.ensures.first ∙ ap (λ (x : StateBox). min x.run.least c.below-first_run.result.1) is }

shift_runs_here : (c : After-below-first_shift_run) → Goes (box_at c.args.boxes.now c.loop-last.last).shift_run (sizes_of c.args.days.now.search.case.now c.args.days.now.search.nurse).shift_run c.below-first_shift_run.result.0 c.below-first_shift_run.result.1
shift_runs_here c =
    let is = c.box_of-state_box.ensures in
    let size = c.shift_run-shift_runs.ensures.shift_run ∙ ap (λ (y : Sizes). y.shift_run) c.args.days.now.own_ranges in
    record { end_is = c.below-first_shift_run.ensures.end ∙ (λ i. min ((is i).shift_run.greatest + 1) (size i)); begin_is = c.below-first_shift_run.ensures.first ∙ ap (λ (x : StateBox). min x.shift_run.least c.below-first_shift_run.result.1) is }

-- the run at hand
run_in : (c : After-below-first_run) (run : _) → run < c.below-first_run.result.1 → run < (sizes_of c.args.days.now.search.case.now c.args.days.now.search.nurse).run
run_in c run below = omega (arith, below, (goes_within (runs_here c)).1)

pub loop-run-init : goal.loop-run-init
loop-run-init c =
    let at = goal.at.loop-run-init c in
    end_on c.loop-last.invariant (group_key c.loop-last.last c.below-first_run.result.0 0) (λ s reachable. before_first_run _ _ _ (few_here at.After-shift_run-shift_runs) s reachable c.loop-last.last (runs_here at.After-below-first_run))

pub loop-shift_run-init : goal.loop-shift_run-init
loop-shift_run-init c =
    let at = goal.at.loop-shift_run-init c in
    end_on c.loop-run.invariant (group_key c.loop-last.last c.loop-run.run c.below-first_shift_run.result.0)
    (λ s reachable. before_first_shift_run _ _ _ (few_here at.After-shift_run-shift_runs) s reachable c.loop-last.last c.loop-run.run (run_in at.After-below-first_run c.loop-run.run c.loop-run-test.true) (shift_runs_here at.After-below-first_shift_run))

pub label_group_end-requires-clause-fits : goal.label_group_end-requires-clause-fits
label_group_end-requires-clause-fits c =
    let days = c.args.days.now in
    let shift_run_in : c.loop-shift_run.shift_run < days.ranges.shift_run = omega (arith, c.loop-shift_run-test.true, c.below-first_shift_run.ensures.order, c.shift_run-shift_runs.ensures.shift_run) in
    subst (λ (s : Summary). fits_sizes days.ranges s ≡ true) (sym c.of_runs-group.ensures)
    (group_fits days.ranges c.loop-last.last c.loop-run.run c.loop-shift_run.shift_run (omega (arith, c.loop-last-test.true, c.last-last-end.ensures.last)) (omega (arith, c.loop-run-test.true, c.below-first_run.ensures.order, c.run-runs.ensures.run)) shift_run_in
    (omega (arith, ap (λ (y : Sizes). y.weekends) days.own_ranges)) (omega (arith, ap (λ (y : Sizes). y.assignments) days.own_ranges)))

pub label_group_end-requires-clause-no_weekends : goal.label_group_end-requires-clause-no_weekends
label_group_end-requires-clause-no_weekends c = ap (λ (s : Summary). s.weekends) c.of_runs-group.ensures

pub label_group_end-requires-clause-no_assignments : goal.label_group_end-requires-clause-no_assignments
label_group_end-requires-clause-no_assignments c = ap (λ (s : Summary). s.assignments) c.of_runs-group.ensures

pub loop-shift_run-preserved : goal.loop-shift_run-preserved
loop-shift_run-preserved c =
    let days = c.args.days.now in
    let at = goal.at.loop-shift_run-preserved c in
    let e = c.label_group_end.ensures in
    let new = c.label_group_end.new.labels in
    let shift_run_in : c.loop-shift_run.shift_run < (sizes_of days.search.case.now days.search.nurse).shift_run = omega (arith, c.loop-shift_run-test.true, (goes_within (shift_runs_here at.After-below-first_shift_run)).1) in
    end_more days c.args.boxes.now (few_here at.After-shift_run-shift_runs) c.loop-last.last c.loop-run.run c.loop-shift_run.shift_run (run_in at.After-below-first_run c.loop-run.run c.loop-run-test.true) shift_run_in c.loop-shift_run.invariant
    (subst (λ (s : Summary). EndLabels (IsReachableLike days.search.case.now days.search.nurse c.args.boxes.now s) days new) c.of_runs-group.ensures e.labels)
    (subst (λ (s : Summary). KeepsRest (code_of days.ranges s) (group_places days) c.loop-shift_run.labels new) c.of_runs-group.ensures e.outside)

pub loop-run-preserved : goal.loop-run-preserved
loop-run-preserved c =
    let at = goal.at.loop-run-preserved c in
    let is : c.loop-shift_run.shift_run ≡ c.below-first_shift_run.result.1 = omega (arith, c.loop-shift_run.auto.shift_run-end, c.below-first_shift_run.ensures.order, c.loop-shift_run-test.false) in
    end_on c.loop-shift_run.invariant (group_key c.loop-last.last (c.loop-run.run + 1) 0)
    (λ s reachable. after_last_shift_run _ _ _ (few_here at.After-shift_run-shift_runs) s reachable c.loop-last.last c.loop-run.run (run_in at.After-below-first_run c.loop-run.run c.loop-run-test.true) (shift_runs_here at.After-below-first_shift_run) c.loop-shift_run.shift_run is)

pub loop-last-preserved : goal.loop-last-preserved
loop-last-preserved c =
    let at = goal.at.loop-last-preserved c in
    let is : c.loop-run.run ≡ c.below-first_run.result.1 = omega (arith, c.loop-run.auto.run-end, c.below-first_run.ensures.order, c.loop-run-test.false) in
    end_on c.loop-run.invariant (group_key (c.loop-last.last + 1) 0 0) (λ s reachable. after_last_run _ _ _ (few_here at.After-shift_run-shift_runs) s reachable c.loop-last.last (runs_here at.After-below-first_run) c.loop-run.run is)

pub returns-clause-labels : goal.returns-clause-labels
returns-clause-labels c s reachable =
    let few = few_here (goal.at.returns-clause-labels c).After-shift_run-shift_runs in
    c.loop-last.invariant.labels_are s (reachable, before_all _ _ _ few s reachable c.loop-last.last (omega (arith, c.loop-last-test.false, c.last-last-end.ensures.last, ap (λ (y : Sizes). y.last) c.args.days.now.own_ranges)))
