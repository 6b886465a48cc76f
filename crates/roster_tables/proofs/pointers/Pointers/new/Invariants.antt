use Rattle.std.proofs.Common.{◌≡◌, vec_capacity, vec_len}
use Rattle.roster_tables.proofs.pointers.Pointers.new.Given as goal

abbrev pub invariant-loop : goal.invariant-loop
invariant-loop l = (vec_len l.bytes ≡ l.counter) × (vec_capacity l.bytes ≡ l.needed)
