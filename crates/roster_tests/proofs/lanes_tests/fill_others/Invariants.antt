use Rattle.std.proofs.Common.{ℕ, ◌+◌, ◌<◌, ◌≤◌, slice_index_or}
use Rattle.roster_tests.proofs.lanes_tests.fill_others.Given as goal

abbrev pub invariant-places : goal.invariant-places
invariant-places l = (i : ℕ) → i < l.i → slice_index_or l.others i 0 + 1000 ≤ 4294967295
