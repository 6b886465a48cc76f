use Rattle.std.proofs.Common.{◌≡◌, ◌∙◌, ◌+◌, ◌<◌, Bool, ℕ, ap, arith, length, refl, sym, true, ◌==◌}
use Rattle.std.proofs.lemmas.Bool.{and_parts, both_ways, eqb-true}
use Rattle.std.proofs.lemmas.List.{length-map}
use Rattle.std.specs.List.{list_all}
use Rattle.roster_instance.specs.Choices.{days_of, shift_of}
use Rattle.roster_instance.specs.Days.{shift_on}
use Rattle.roster_rules.specs.HardRules.{breaks_succession, shift_before}
use Rattle.roster_instance.specs.Meaning.{Meaning, day_count, last_shift, past_of, forbids}
use Rattle.roster_rules.specs.Prefix.{due, summary_of}
use Rattle.roster_instance.specs.Rosters.{Row, is_choice_of, is_row_of}
use Rattle.roster_tests.proofs.RowLemmas.{forbidden_by, front, front_more, kept_more, length_front}
use Rattle.roster_tests.proofs.TriedDays.{tried-all, tried-up_to}
use Rattle.roster_tests.proofs.row.row_cost.Goals as goal

row_days : (k : Meaning) (row : Row) → is_row_of k row ≡ true → length row ≡ day_count k
row_days k row fitting = eqb-true (length row) (day_count k) (and_parts (length row == day_count k) (list_all (is_choice_of k) row) fitting).0

pub returns-in_err-next-clause-forbidden : goal.returns-in_err-next-clause-forbidden
returns-in_err-next-clause-forbidden c none keeps =
    let k = c.args.case.now in
    let n = c.args.nurse in
    let row = c.args.row.now in
    let day = c.loop-day.day in
    let days = row_days k row c.requires.row in
    let inside : day < length (days_of row) = omega (arith, days, length-map row shift_of, c.days-day-end.ensures.count) in
    both_ways _
    (forbidden_by k n row day c.loop-day.state c.shift.result (omega (arith, days, c.days-day-end.ensures.count)) c.loop-day.invariant.state_is c.shift.ensures ∙ keeps day inside)
    (c.in_err-next.ensures.forbidden.0 refl)

-- the refused day counts, and no day after it
pub returns-in_err-next-clause-counted : goal.returns-in_err-next-clause-counted
returns-in_err-next-clause-counted c =
    let k = c.args.case.now in
    let n = c.args.nurse in
    let row = c.args.row.now in
    let day = c.loop-day.day in
    let days = row_days k row c.requires.row in
    let inside : day < length (days_of row) = omega (arith, days, length-map row shift_of, c.days-day-end.ensures.count) in
    let breaks : forbids k.successions (shift_before (last_shift (past_of k n).border) (days_of row) day) (shift_on (days_of row) day) ≡ true =
    sym (forbidden_by k n row day c.loop-day.state c.shift.result (omega (arith, days, c.days-day-end.ensures.count)) c.loop-day.invariant.state_is c.shift.ensures) ∙ c.in_err-next.ensures.forbidden.0 refl in
    let tried = tried-up_to (breaks_succession k n (days_of row)) (length (days_of row)) day inside c.loop-day.invariant.kept breaks in
    omega (arith, tried, c.loop-day.invariant.counted, c.in_err-next.ensures.counted)

pub loop-day-preserved : goal.loop-day-preserved
loop-day-preserved c =
    let k = c.args.case.now in
    let n = c.args.nurse in
    let row = c.args.row.now in
    let day = c.loop-day.day in
    let shift = c.shift.result in
    let days = row_days k row c.requires.row in
    let inside : day < length row = omega (arith, days, c.days-day-end.ensures.count) in
    let is = c.loop-day.invariant.state_is in
    let more = front_more row day shift inside c.shift.ensures in
    let so_long = length_front row day (omega arith) in
    let p : ℕ → Bool = λ d. forbids k.successions (shift_before (last_shift (past_of k n).border) (days_of row) d) (shift_on (days_of row) d) in
    record {
      state_is = c.in_ok-next.ensures.summary (front day row) so_long is ∙ ap (summary_of k n) (sym more);
      cost_is = ap (λ x. x + c.in_ok-next.more) c.loop-day.invariant.cost_is ∙ sym (c.in_ok-next.ensures.owed (front day row) so_long is) ∙ ap (due k n) (sym more);
      fitting = c.in_ok-next.ensures.next_fits;
      kept = kept_more p day c.loop-day.invariant.kept (λ h. both_ways true (c.in_ok-next.ensures.forbidden.1 (forbidden_by k n row day c.loop-day.state shift (omega arith) is c.shift.ensures ∙ h)) refl);
      within = omega (arith, c.loop-day.invariant.within, c.in_ok-next.ensures.within);
      counted = omega (arith, c.loop-day.invariant.counted, c.in_ok-next.ensures.counted);
    }

pub returns-clause-kept : goal.returns-clause-kept
returns-clause-kept c d h =
    let days = row_days c.args.case.now c.args.row.now c.requires.row in
    c.loop-day.invariant.kept d (omega (arith, h, days, length-map c.args.row.now shift_of, c.days-day-end.ensures.count, c.loop-day-test.false))

pub returns-clause-counted : goal.returns-clause-counted
returns-clause-counted c =
    let k = c.args.case.now in
    let row = c.args.row.now in
    let days = row_days k row c.requires.row in
    let all : length (days_of row) ≡ c.loop-day.day = omega (arith, days, length-map row shift_of, c.days-day-end.ensures.count, c.loop-day-test.false) in
    let tried = tried-all (breaks_succession k c.args.nurse (days_of row)) (length (days_of row)) (λ d h. c.loop-day.invariant.kept d (omega (arith, h, all))) in
    omega (arith, all, tried, c.loop-day.invariant.counted)
