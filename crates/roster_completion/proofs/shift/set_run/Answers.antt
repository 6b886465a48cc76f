use Rattle.std.proofs.Common.{◌≡◌, ◌∙◌, ◌+◌, ◌*◌, ap, arith}
use Rattle.std.proofs.lemmas.List.Edits.{get_or-between, length-between}
use Rattle.std.specs.List.{between}
use Rattle.roster_instance.specs.Sizes.{cap}
use Rattle.roster_state.specs.CompletionLines.{longer, most_completion_bound}
use Rattle.roster_completion.specs.Lines.{next_at}
use Rattle.roster_completion.proofs.Cells.{part_low}
use Rattle.roster_completion.proofs.LineLaws.{line_under}
use Rattle.roster_completion.proofs.Indices.{cap_within, line_is, line_fits, line_small}
use Rattle.roster_completion.proofs.shift.set_run.Goals as goal

pub overflow_mul-first-2 : goal.overflow_mul-first-2
overflow_mul-first-2 c = omega (arith, line_small c.args.day.now c.args.after.now.last c.requires.after.in_case c.args.run c.min-to.result (omega (arith, c.min-to.ensures, c.cap-most.ensures)))

pub overflow_add-next : goal.overflow_add-next
overflow_add-next c = omega (arith, line_small c.args.day.now c.args.after.now.last c.requires.after.in_case c.args.run c.min-to.result (omega (arith, c.min-to.ensures, c.cap-most.ensures)))

pub offset_bounds-day-first : goal.offset_bounds-day-first
offset_bounds-day-first c = omega (arith, line_small c.args.day.now c.args.after.now.last c.requires.after.in_case c.args.run c.min-to.result (omega (arith, c.min-to.ensures, c.cap-most.ensures)))

pub slice_bounds-next-end : goal.slice_bounds-next-end
slice_bounds-next-end c = line_fits c.args.day.now c.args.after.now.last c.requires.after.in_case c.args.run c.min-to.result (omega (arith, c.min-to.ensures, c.cap-most.ensures))

pub set_line-requires-clause-after_long : goal.set_line-requires-clause-after_long
set_line-requires-clause-after_long c =
    let day = c.args.day.now in
    let last = c.args.after.now.last in
    let first = ((last.0 + 1) * day.runs + c.min-to.result) * day.shift_runs in
    let room = line_fits day last c.requires.after.in_case c.args.run c.min-to.result (omega (arith, c.min-to.ensures, c.cap-most.ensures)) in
    omega (arith, length-between day.next.now first (first + day.shift_runs) room, cap_within day last c.requires.after.in_case, ap cap c.run_costs-costs.ensures.run)

pub set_line-requires-clause-low : goal.set_line-requires-clause-low
set_line-requires-clause-low c =
    part_low most_completion_bound c.args.day.now.next.now _ _ (line_fits c.args.day.now c.args.after.now.last c.requires.after.in_case c.args.run c.min-to.result (omega (arith, c.min-to.ensures, c.cap-most.ensures))) c.args.day.now.low_next

pub set_line-requires-clause-capped : goal.set_line-requires-clause-capped
set_line-requires-clause-capped c =
    omega (arith, cap_within c.args.day.now c.args.after.now.last c.requires.after.in_case, ap cap c.run_costs-costs.ensures.run, c.requires.capacity)

pub returns-clause-under : goal.returns-clause-under
returns-clause-under c =
    let day = c.args.day.now in
    let last = c.args.after.now.last in
    let first = ((last.0 + 1) * day.runs + c.min-to.result) * day.shift_runs in
    let costs = c.run_costs-costs.ensures in
    let to : c.min-to.result ≡ longer c.args.run day.rules.working = omega (arith, c.min-to.ensures, c.cap-most.ensures) in
    let at = line_is day last c.requires.after.in_case c.args.run c.min-to.result to in
    line_under day c.args.after.now c.requires.after c.args.run c.run_costs-costs.result costs.run costs.weight costs.off costs.others costs.stay (between first (first + day.shift_runs) day.next.now) c.set_line.new.here
    (λ q l. c.set_line.ensures.leaves q (omega (arith, l, c.set_line.ensures.counted.length_stays, c.requires.capacity)))
    (λ q l. c.set_line.ensures.stays q (omega (arith, l, c.set_line.ensures.counted.length_stays, c.requires.capacity)))
    (λ q l. get_or-between day.next.now first (first + day.shift_runs) q 0 (omega (arith, l)) ∙ ap (λ m. next_at day (m + q)) at)
