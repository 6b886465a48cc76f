-- How much the start, a transition and the end can cost, by the greatest small number and the weights.
use Rattle.std.specs.Prelude.{ℕ, ◌+◌, ◌*◌, max}
use Rattle.roster_instance.specs.Limits.{most_small}
use Rattle.roster_rules.specs.Weights.{working_run_weight, shift_run_weight, free_run_weight, split_weight, assignment_weight, weekend_weight}

-- the assignments and the worked weekends of the history: 49,950
abbrev pub most_at_start : ℕ
most_at_start = assignment_weight * most_small + weekend_weight * most_small

-- a run of working days or of days off ends and the other begins, the run of a shift ends and that of another
-- goes on, and the rest counts once: 45,080
abbrev pub most_of_transition : ℕ
most_of_transition =
    max working_run_weight free_run_weight * (most_small + 1) + shift_run_weight * (most_small + 1)
    + split_weight + assignment_weight + weekend_weight

-- the missing assignments: 19,980
abbrev pub most_at_end : ℕ
most_at_end = assignment_weight * most_small
