-- A day's table, with a number for each shift and skill.
use Rattle.std.specs.Prelude.{◌≡◌, ◌+◌, ◌*◌, ◌<◌, ℕ, List, slice_index_or}
use Rattle.roster_instance.specs.Limits.{most_shifts, most_skills}
use Rattle.roster_instance.specs.Rosters.{Rows, cover}

-- the number for a shift and skill: the shifts come one after another, each with a number for each skill
abbrev pub number_at : List ℕ → ℕ → ℕ → ℕ
number_at table s k = slice_index_or table (most_skills * s + k) 0

-- the table has these numbers
abbrev pub IsTable : (ℕ → ℕ → ℕ) → List ℕ → Type 0
IsTable have table = (s k : ℕ) → s < most_shifts → k < most_skills → number_at table s k ≡ have s k

-- the table has the cover of each shift and skill on a day
abbrev pub AreCovers : Rows → ℕ → List ℕ → Type 0
AreCovers r day counts = IsTable (cover r day) counts
