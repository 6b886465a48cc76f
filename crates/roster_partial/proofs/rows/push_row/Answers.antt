use Rattle.std.proofs.Common.{◌∙◌, ◌+◌, ◌*◌, ◌≤◌, ap, arith, length, refl}
use Rattle.roster_partial.specs.Rows.{count_in, entry_of}
use Rattle.roster_partial.proofs.RowCells.{entry_is, pushed, written_cost, written_count, written_counts, written_link, written_others, written_runs}
use Rattle.roster_partial.proofs.rows.push_row.Goals as goal

pub returns-clause-rows : goal.returns-clause-rows
returns-clause-rows c =
    let cells = c.args.cells.now in
    let more = c.args.more.now in
    let first = 4 * count_in cells in
    let runs = c.runs_cell.result in
    let counts = c.counts_cell.result in
    let link = (more.before * 16 + more.offer) * 16 + c.last_number.result in
    let count = count_in cells + 1 in
    let room : first + 5 ≤ length cells = omega (arith, c.requires.cells) in
    let is = entry_is more more.cost runs counts link refl c.runs_cell.ensures.run c.runs_cell.ensures.shift_run c.counts_cell.ensures.assignments c.counts_cell.ensures.weekends
    (ap (λ n. (more.before * 16 + more.offer) * 16 + n) c.last_number.ensures.number) c.requires.offer c.requires.last in
    pushed cells _ (written_others cells first more.cost runs counts link count room) more
    ((λ i. entry_of (written_cost cells first more.cost runs counts link count room i) (written_runs cells first more.cost runs counts link count room i) (written_counts cells first more.cost runs counts link count room i) (written_link cells first more.cost runs counts link count room i)) ∙ is)
    (written_count cells first more.cost runs counts link count room)
