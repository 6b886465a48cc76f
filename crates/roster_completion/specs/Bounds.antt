-- The size of a day's completion bounds.
use Rattle.std.specs.Prelude.{◌≡◌, ℕ, ◌+◌, ◌<◌, ◌≤◌, List, slice_index_or}
use Rattle.roster_state.specs.CompletionLines.{most_completion_bound}

-- this number of completion bounds, from an index on, are within their range
abbrev pub AreLowFrom : (first count : ℕ) → List ℕ → Type 0
AreLowFrom first count completion_bounds =
    (k : ℕ) → k < count → slice_index_or completion_bounds (first + k) 0 ≤ most_completion_bound

-- the completion bounds from an index on are as they were
abbrev pub AreKeptFrom : (first : ℕ) → (old new : List ℕ) → Type 0
AreKeptFrom first old new = (k : ℕ) → first ≤ k → slice_index_or new k 0 ≡ slice_index_or old k 0
