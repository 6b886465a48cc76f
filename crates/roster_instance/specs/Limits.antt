-- The limits of an instance (our profile; eight skills, eight shifts and the number of states keep the search
-- small).
use Rattle.std.specs.Prelude.{ℕ, ◌*◌}
pub use Rattle.roster_bundle.specs.Limits.{most_small}

-- the most weeks, and their days
abbrev pub most_weeks : ℕ
most_weeks = 52

abbrev pub most_days : ℕ
most_days = 7 * most_weeks

abbrev pub most_skills : ℕ
most_skills = 8

abbrev pub most_shifts : ℕ
most_shifts = 8

abbrev pub most_contracts : ℕ
most_contracts = 64

abbrev pub most_nurses : ℕ
most_nurses = 400

-- the most points for a day that differs from the roster that is kept
abbrev pub most_keep : ℕ
most_keep = 100

-- the most states in the search for a nurse
abbrev pub most_states : ℕ
most_states = 1048576
