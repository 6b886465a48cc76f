use Rattle.std.proofs.Common.{◌≡◌, ◌<◌, ℕ, get_or}
use Rattle.roster_tables.specs.Halves.{high, low}
use Rattle.roster_tables.proofs.pointers.set_high.Given as goal

abbrev pub invariant-loop-i : goal.invariant-loop-i
invariant-loop-i l = record {
  set : (k : ℕ) → k < l.i → high (get_or l.bytes k 0) ≡ get_or l.run k 0;
  left : (k : ℕ) → low (get_or l.bytes k 0) ≡ low (get_or l.fn.bytes k 0);
}
