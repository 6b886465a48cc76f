use Rattle.std.proofs.Common.{◌≡◌, ◌∙◌, ◌+◌, ◌<◌, ◌≤◌, ℕ, suc, ap, arith, length, min, subst, sym}
use Rattle.roster_rules.specs.Prefix.{Summary}
use Rattle.roster_state.specs.declared.state_box.StateBox.{StateBox}
use Rattle.roster_state.specs.Boxes.{box_at}
use Rattle.roster_state.specs.Codes.{Sizes, sizes_of}
use Rattle.roster_tables.specs.Counts.{group_of, states_of_run, states_with}
use Rattle.roster_tables.specs.OpenDays.{IsGroupOf, group_extensions}
use Rattle.roster_tables.proofs.CellLaws.{tables_same}
use Rattle.roster_tables.proofs.CountLaws.{Goes, exactly_on, goes_within, room_for_part, sum_begun, sum_ended, sum_more}
use Rattle.roster_tables.proofs.DayLaws.{FewRuns, GroupDone, before_all, before_first_run, before_first_shift_run, after_last_run, after_last_shift_run, done_on, few_of, group_done, group_is, group_key, group_part, groups_below, lasts_below, runs_below}
use Rattle.roster_tables.proofs.labels.label_day.Goals as goal
use Rattle.roster_tables.proofs.labels.label_day.Goals.{After-below-first_run, After-below-first_shift_run, After-shift_run-shift_runs}

-- the runs are few
few_here : (c : After-shift_run-shift_runs) → FewRuns (sizes_of c.args.day.now.days.search.case.now c.args.day.now.days.search.nurse)
few_here c = few_of c.args.day.now.days.ranges _ c.run-runs.result c.shift_run-shift_runs.result c.args.day.now.days.own_ranges c.run-runs.ensures.run c.run-runs.ensures.within c.shift_run-shift_runs.ensures.shift_run c.shift_run-shift_runs.ensures.within

-- the loops' runs, and the runs of the shift
runs_here : (c : After-below-first_run) → Goes (box_at c.args.day.now.boxes.now c.loop-last.last).run (sizes_of c.args.day.now.days.search.case.now c.args.day.now.days.search.nurse).run c.below-first_run.result.0 c.below-first_run.result.1
runs_here c =
    let is = c.box_of-state_box.ensures in
    let size = c.run-runs.ensures.run ∙ ap (λ (y : Sizes). y.run) c.args.day.now.days.own_ranges in
    record { end_is = c.below-first_run.ensures.end ∙ (λ i. min ((is i).run.greatest + 1) (size i)); begin_is = c.below-first_run.ensures.first ∙ ap (λ (x : StateBox). min x.run.least c.below-first_run.result.1) is }

shift_runs_here : (c : After-below-first_shift_run) → Goes (box_at c.args.day.now.boxes.now c.loop-last.last).shift_run (sizes_of c.args.day.now.days.search.case.now c.args.day.now.days.search.nurse).shift_run c.below-first_shift_run.result.0 c.below-first_shift_run.result.1
shift_runs_here c =
    let is = c.box_of-state_box.ensures in
    let size = c.shift_run-shift_runs.ensures.shift_run ∙ ap (λ (y : Sizes). y.shift_run) c.args.day.now.days.own_ranges in
    record { end_is = c.below-first_shift_run.ensures.end ∙ (λ i. min ((is i).shift_run.greatest + 1) (size i)); begin_is = c.below-first_shift_run.ensures.first ∙ ap (λ (x : StateBox). min x.shift_run.least c.below-first_shift_run.result.1) is }

-- the run at hand
run_in : (c : After-below-first_run) (run : ℕ) → run < c.below-first_run.result.1 → run < (sizes_of c.args.day.now.days.search.case.now c.args.day.now.days.search.nurse).run
run_in c run below = omega (arith, below, (goes_within (runs_here c)).1)

pub loop-last-init : goal.loop-last-init
loop-last-init c = record {
  tables = record { labels_are = λ s which. absurd (omega (arith, which.1)); pointers_are = λ s which. absurd (omega (arith, which.1)) };
  outside = tables_same c.args.day.now 0 _ c.args.labels.now c.args.pointers.now;
  exactly = omega arith;
}

pub loop-run-init : goal.loop-run-init
loop-run-init c =
    let at = goal.at.loop-run-init c in
    let day = c.args.day.now in
    let last = c.loop-last.last in
    let begin = c.below-first_run.result.0 in
    let runs = runs_here at.After-below-first_run in
    let none = sum_begun runs (states_of_run day.days.search.case.now day.days.search.nurse day.boxes.now last) in
    done_on c.loop-last.invariant (group_key last begin 0) (runs_below day last begin) (λ s reachable. before_first_run _ _ _ (few_here at.After-shift_run-shift_runs) s reachable last runs) (omega (arith, none))

pub loop-shift_run-init : goal.loop-shift_run-init
loop-shift_run-init c =
    let at = goal.at.loop-shift_run-init c in
    let day = c.args.day.now in
    let last = c.loop-last.last in
    let run = c.loop-run.run in
    let begin = c.below-first_shift_run.result.0 in
    let shift_runs = shift_runs_here at.After-below-first_shift_run in
    let none = sum_begun shift_runs (λ q. states_with day.days.search.case.now day.days.search.nurse day.boxes.now (group_of last run q)) in
    done_on c.loop-run.invariant (group_key last run begin) (groups_below day last run begin)
    (λ s reachable. before_first_shift_run _ _ _ (few_here at.After-shift_run-shift_runs) s reachable last run (run_in at.After-below-first_run run c.loop-run-test.true) shift_runs) (omega (arith, none))

pub label_group-requires-clause-group : goal.label_group-requires-clause-group
label_group-requires-clause-group c =
    let at = goal.at.label_group-requires-clause-group c in
    subst (IsGroupOf c.args.day.now) (sym c.of_runs-group.ensures)
    (group_is c.args.day.now c.loop-last.last c.loop-run.run c.loop-shift_run.shift_run (omega (arith, c.loop-last-test.true, c.last-last-end.ensures.last)) (runs_here at.After-below-first_run) c.loop-run.auto.run c.loop-run-test.true
    (shift_runs_here at.After-below-first_shift_run) c.loop-shift_run.auto.shift_run c.loop-shift_run-test.true)

pub label_group-requires-clause-room : goal.label_group-requires-clause-room
label_group-requires-clause-room c =
    let at = goal.at.label_group-requires-clause-room c in
    let day = c.args.day.now in
    let last = c.loop-last.last in
    let run = c.loop-run.run in
    let shift_run = c.loop-shift_run.shift_run in
    let part = group_part day last run shift_run (omega (arith, c.loop-last-test.true, c.last-last-end.ensures.last)) (runs_here at.After-below-first_run) c.loop-run.auto.run c.loop-run-test.true (shift_runs_here at.After-below-first_shift_run) c.loop-shift_run.auto.shift_run c.loop-shift_run-test.true in
    subst (λ (s : Summary). c.loop-shift_run.meter + group_extensions day s ≤ 18446744073709551615) (sym c.of_runs-group.ensures)
    (room_for_part (groups_below day last run shift_run) _ _ (length day.offers.now) c.args.meter.now c.loop-shift_run.meter 18446744073709551615 c.loop-shift_run.invariant.exactly part c.requires.room)

pub loop-shift_run-preserved : goal.loop-shift_run-preserved
loop-shift_run-preserved c =
    let at = goal.at.loop-shift_run-preserved c in
    let day = c.args.day.now in
    let e = c.label_group.ensures in
    let new = c.label_group.new in
    let done = subst (λ (s : Summary). GroupDone day s c.loop-shift_run.labels new.labels c.loop-shift_run.pointers new.pointers c.loop-shift_run.meter new.meter) c.of_runs-group.ensures (record { tables = e.tables; outside = e.outside; exactly = e.exactly }) in
    group_done day c.loop-last.last c.loop-run.run c.loop-shift_run.shift_run (omega (arith, c.loop-last-test.true, c.last-last-end.ensures.last)) (runs_here at.After-below-first_run) c.loop-run.auto.run c.loop-run-test.true
    (shift_runs_here at.After-below-first_shift_run) c.loop-shift_run.auto.shift_run c.loop-shift_run-test.true (few_here at.After-shift_run-shift_runs) c.loop-shift_run.invariant done

pub loop-run-preserved : goal.loop-run-preserved
loop-run-preserved c =
    let at = goal.at.loop-run-preserved c in
    let day = c.args.day.now in
    let last = c.loop-last.last in
    let run = c.loop-run.run in
    let shift_runs = shift_runs_here at.After-below-first_shift_run in
    let is : c.loop-shift_run.shift_run ≡ c.below-first_shift_run.result.1 = omega (arith, c.loop-shift_run.auto.shift_run-end, c.below-first_shift_run.ensures.order, c.loop-shift_run-test.false) in
    let all = sum_ended shift_runs c.loop-shift_run.shift_run (λ q. states_with day.days.search.case.now day.days.search.nurse day.boxes.now (group_of last run q)) is in
    let more = sum_more (runs_here at.After-below-first_run) run (states_of_run day.days.search.case.now day.days.search.nurse day.boxes.now last) c.loop-run.auto.run c.loop-run-test.true in
    done_on c.loop-shift_run.invariant (group_key last (run + 1) 0) (runs_below day last (run + 1))
    (λ s reachable. after_last_shift_run _ _ _ (few_here at.After-shift_run-shift_runs) s reachable last run (run_in at.After-below-first_run run c.loop-run-test.true) shift_runs c.loop-shift_run.shift_run is) (omega (arith, all, more))

pub loop-last-preserved : goal.loop-last-preserved
loop-last-preserved c =
    let at = goal.at.loop-last-preserved c in
    let day = c.args.day.now in
    let last = c.loop-last.last in
    let runs = runs_here at.After-below-first_run in
    let is : c.loop-run.run ≡ c.below-first_run.result.1 = omega (arith, c.loop-run.auto.run-end, c.below-first_run.ensures.order, c.loop-run-test.false) in
    let all = sum_ended runs c.loop-run.run (states_of_run day.days.search.case.now day.days.search.nurse day.boxes.now last) is in
    let next : suc last ≡ last + 1 = omega arith in
    done_on c.loop-run.invariant (group_key (last + 1) 0 0) (lasts_below day (last + 1)) (λ s reachable. after_last_run _ _ _ (few_here at.After-shift_run-shift_runs) s reachable last runs c.loop-run.run is) (omega (arith, all) ∙ ap (lasts_below day) next)

-- ---- after the last group

pub returns-clause-tables : goal.returns-clause-tables
returns-clause-tables c =
    let few = few_here (goal.at.returns-clause-tables c).After-shift_run-shift_runs in
    let tables = c.loop-last.invariant.tables in
    let last = c.loop-last.last in
    let all : (sizes_of c.args.day.now.days.search.case.now c.args.day.now.days.search.nurse).last ≤ last = omega (arith, c.loop-last-test.false, c.last-last-end.ensures.last, ap (λ (y : Sizes). y.last) c.args.day.now.days.own_ranges) in
    record { labels_are = λ s reachable. tables.labels_are s (reachable, before_all _ _ _ few s reachable last all); pointers_are = λ s reachable. tables.pointers_are s (reachable, before_all _ _ _ few s reachable last all) }

pub returns-clause-exactly : goal.returns-clause-exactly
returns-clause-exactly c =
    let all : c.loop-last.last ≡ (sizes_of c.args.day.now.days.search.case.now c.args.day.now.days.search.nurse).last = omega (arith, c.loop-last.auto.last-end, c.loop-last-test.false, c.last-last-end.ensures.last, ap (λ (y : Sizes). y.last) c.args.day.now.days.own_ranges) in
    exactly_on (length c.args.day.now.offers.now) c.args.meter.now c.loop-last.meter c.loop-last.invariant.exactly (ap (lasts_below c.args.day.now) all)
