-- Each nurse has a state.
use Rattle.std.proofs.Common.{ℕ, ◌+◌, ◌*◌, ◌<◌, arith, map, max}
use Rattle.std.proofs.lemmas.Nat.{mul-le}
use Rattle.roster_instance.specs.Meaning.{Meaning, contract_of, shift_count}
use Rattle.roster_instance.specs.Sizes.{cap, greatest_of, state_count}

some_pairs : (a b : ℕ) → 0 < a → 0 < b → 0 < a * b
some_pairs a b some others = omega (arith, mul-le 1 1 a b some others)

pub some_states : (c : Meaning) (n : ℕ) → 0 < state_count c n
unfolding state_count
some_states c n =
    let lasts = shift_count c + 1 in
    let runs = max (cap (contract_of c n).working) (cap (contract_of c n).free) + 1 in
    let shift_runs = greatest_of (map cap c.runs) + 1 in
    let assignments = cap (contract_of c n).total + 1 in
    let weekends = (contract_of c n).weekends + 1 in
    let by_runs = some_pairs (lasts * runs) shift_runs (some_pairs lasts runs (omega arith) (omega arith)) (omega arith) in
    let by_assignments = some_pairs (lasts * runs * shift_runs) assignments by_runs (omega arith) in
    some_pairs (lasts * runs * shift_runs * assignments) weekends by_assignments (omega arith)
