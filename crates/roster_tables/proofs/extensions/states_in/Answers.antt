use Rattle.std.proofs.Common.{◌*◌, ◌≤◌, arith}
use Rattle.std.proofs.lemmas.Nat.{mul-le}
use Rattle.roster_tables.proofs.extensions.states_in.Goals as goal

pub overflow_mul-result-3 : goal.overflow_mul-result-3
overflow_mul-result-3 c =
    let runs = c.numbers_in.result in
    let shift_runs = c.numbers_in-shift_runs.result in
    let weekends = c.numbers_in-weekends.result in
    let assignments = c.numbers_in-assignments.result in
    let block : weekends * assignments ≤ 1000000 = mul-le weekends assignments 1000 1000 (omega (arith, c.numbers_in-weekends.ensures.within, c.weekends.ensures.within)) (omega (arith, c.numbers_in-assignments.ensures.within, c.assignments.ensures.within)) in
    let blocks : shift_runs * (weekends * assignments) ≤ 1000000000 = mul-le shift_runs (weekends * assignments) 1000 1000000 (omega (arith, c.numbers_in-shift_runs.ensures.within, c.shift_run.ensures.within)) block in
    omega (arith, mul-le runs (shift_runs * (weekends * assignments)) 1000 1000000000 (omega (arith, c.numbers_in.ensures.within, c.run.ensures.within)) blocks)
