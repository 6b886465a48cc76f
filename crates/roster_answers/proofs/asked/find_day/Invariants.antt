use Rattle.std.proofs.Common.{◌≡◌, ◌<◌, [], ℕ, false, slice_index_or}
use Rattle.std.specs.Prelude.{bytes_eq}
use Rattle.roster_answers.specs.Answer.{day_names}
use Rattle.roster_answers.proofs.asked.find_day.Given as goal

-- none of the days before this one has the name
abbrev pub invariant-loop-day : goal.invariant-loop-day
invariant-loop-day l = record {
  others : (k : ℕ) → k < l.day → bytes_eq l.name (slice_index_or (day_names l.case) k []) ≡ false;
}
