use Rattle.std.proofs.Common.{◌≡◌, ◌+◌, ℕ, Bool, true, false, arith}
use Rattle.roster_instance.specs.Counting.{one_if}
use mir.Val.{bool_byte}
use Rattle.roster_case.proofs.recount.exchange.Goals as goal

-- the shortfall with the new choice in place of the old one
both_short : (old new none : ℕ) (more fewer : Bool) → old + one_if more ≡ none → new + one_if fewer ≡ none → new + bool_byte fewer ≡ old + bool_byte more
both_short old new none true true a b = omega (arith, a, b)
both_short old new none true false a b = omega (arith, a, b)
both_short old new none false true a b = omega (arith, a, b)
both_short old new none false false a b = omega (arith, a, b)

pub returns-clause-table : goal.returns-clause-table
returns-clause-table c have are = c.put.ensures have (c.take_away.ensures.table have are)

pub returns-clause-shortfall : goal.returns-clause-shortfall
returns-clause-shortfall c have are =
    let without = c.take_away.ensures.table have are in
    both_short _ _ _ c.is_short.result c.is_short-2.result (c.is_short.ensures have without) (c.is_short-2.ensures have without)
