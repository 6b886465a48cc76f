-- The greatest penalty of a roster, by the limits of an instance and the weights.
use Rattle.std.specs.Prelude.{ℕ, ◌*◌}
use Rattle.roster_instance.specs.Limits.{most_days, most_shifts, most_skills, most_small}
use Rattle.roster_rules.specs.Weights.{staffing_weight}

-- what missing nurses cost at most: 698,181,120
abbrev pub most_staffing : ℕ
most_staffing = most_days * most_shifts * most_skills * staffing_weight * most_small

-- no penalty is above this
abbrev pub most_penalty : ℕ
most_penalty = 7317767120

-- nor above this if no roster is kept
abbrev pub most_penalty_unkept : ℕ
most_penalty_unkept = 7303207120

-- each penalty is below 2^33
abbrev pub penalty_limit : ℕ
penalty_limit = 8589934592
