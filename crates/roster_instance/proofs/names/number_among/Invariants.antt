use Rattle.std.proofs.Common.{◌≡◌, ◌<◌, [], ℕ, false, map, slice_index_or}
use Rattle.std.specs.Prelude.{bytes_eq}
use Rattle.roster_instance.proofs.names.number_among.Given as goal

-- none of the names before this number is the name
abbrev pub invariant-loop-number : goal.invariant-loop-number
invariant-loop-number l = record {
  others : (k : ℕ) → k < l.number → bytes_eq l.name (slice_index_or (map (λ own. own.items) l.names) k []) ≡ false;
}
