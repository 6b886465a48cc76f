-- A line of completion bounds: those of one last shift and one run, one for each run of the shift (our own).
use Rattle.std.specs.Prelude.{◌≡◌, ℕ, ◌+◌, ◌*◌, ◌<◌, ◌≤◌, true, false, List, length, min, slice_index_or}
use Rattle.roster_instance.specs.declared.rules.Limits.{Limits}
use Rattle.roster_instance.specs.RunLaw.{day_violations}
use Rattle.roster_instance.specs.Sizes.{cap}
use Rattle.roster_state.specs.declared.line.LineCosts.{LineCosts}

-- what a missing or extra day of a shift's run costs at most: 15 points in 128 parts each
abbrev pub most_weight : ℕ
most_weight = 1920

-- the most that a day costs and what comes after it, as completion bounds count it, 2^30: what is more counts
-- as this, so that what the run of a shift misses can be added, 125,829,120 at most
abbrev pub most_leave : ℕ
most_leave = 1073741824

-- a completion bound is at most that and what the run of a shift misses
abbrev pub most_completion_bound : ℕ
most_completion_bound = 1199570944

-- no completion bound is above that
abbrev pub AreLow : List ℕ → Type 0
AreLow completion_bounds = (k : ℕ) → slice_index_or completion_bounds k 0 ≤ most_completion_bound

-- a run of working days, or of days off, with one more day
abbrev pub longer : (run : ℕ) → Limits → ℕ
longer run limits = min (run + 1) (cap limits)

-- a number is no more than what leaving a shift costs after a run of it
abbrev pub IsUnderLeave : LineCosts → (q completion_bound : ℕ) → Type 0
IsUnderLeave costs q completion_bound =
    completion_bound ≤ costs.leave + costs.weight * day_violations costs.run q false

-- a number is no more than what staying costs after a run of a shift, and the completion bound after it, of a
-- line
abbrev pub IsUnderStay : LineCosts → (after : List ℕ) → (q completion_bound : ℕ) → Type 0
IsUnderStay costs after q completion_bound =
    completion_bound ≤ costs.stay + costs.weight * day_violations costs.run q true
    + slice_index_or after (longer q costs.run) 0

-- a number that is computed, after a run that a row can reach, is no less than both these numbers
abbrev pub IsLesser : LineCosts → (after : List ℕ) → (q completion_bound : ℕ) → Type 0
IsLesser costs after q completion_bound =
    0 < q → q < costs.count → min (costs.leave + costs.weight * day_violations costs.run q false)
    (costs.stay + costs.weight * day_violations costs.run q true
    + slice_index_or after (longer q costs.run) 0) ≤ completion_bound

-- it keeps its length, and each of its completion bounds was counted once for each of its day's offers
pub record IsCounted (old new : List ℕ) (offers before after : ℕ) : Type 0 where
  pub length_stays : length new ≡ length old
  pub counted : after ≡ before + length old * offers
