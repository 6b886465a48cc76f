use Rattle.std.proofs.Common.{◌≡◌, ◌<◌, [], ℕ, false, slice_index_or}
use Rattle.std.specs.Prelude.{bytes_eq}
use Rattle.roster_answers.proofs.asked.find_shift.Given as goal

-- none of the names before this one is it
abbrev pub invariant-loop-number : goal.invariant-loop-number
invariant-loop-number l = record {
  others : (k : ℕ) → k < l.number → bytes_eq l.name (slice_index_or l.case.shift_names k []) ≡ false;
}
