-- How the dual prices of slots follow the cover in a fade (our own).
use Rattle.std.specs.Prelude.{◌≡◌, ℕ, ◌+◌, ◌-◌, ◌*◌, ◌/◌, ◌%◌, ◌<◌, ◌==◌, ◌&&◌, if◌then◌else◌, max, min, nat_lt, slice_index_or}
use Rattle.roster_instance.specs.Meaning.{Meaning, day_count, minimum, optimum}
use Rattle.roster_rules.specs.Weights.{staffing_weight}
use Rattle.roster_slots.specs.Tables.{most_fine, fine_per_point}
use Rattle.roster_prices.specs.declared.workspace.BoundWorkspace.{BoundWorkspace}

-- how many nurses a slot wants at its dual price, in fine units: the optimum as long as the dual price is at
-- most what a missing nurse costs, and else the minimum
abbrev pub wanted_at : (minimum optimum fine : ℕ) → ℕ
wanted_at minimum optimum fine =
    if nat_lt (fine_per_point * staffing_weight) fine then minimum else max minimum optimum

-- a dual price after a step: higher, up to the greatest, if nurses are missing; lower if there are too many
abbrev pub moved_by : (wanted nurses fine step : ℕ) → ℕ
moved_by wanted nurses fine step =
    if nat_lt nurses wanted then min (fine + step) most_fine else if nat_lt wanted nurses
    then fine - step else fine

-- a slot that asks for no nurse keeps its dual price
abbrev pub followed_by : (minimum optimum nurses fine step : ℕ) → ℕ
followed_by minimum optimum nurses fine step =
    if (minimum == 0) && (optimum == 0) then fine
    else moved_by (wanted_at minimum optimum fine) nurses fine step

-- each slot's dual price has followed the cover, which stays
pub record HaveFollowed {T : Type 0} (c : Meaning) (step : ℕ) (old new : BoundWorkspace T) : Type 0 where
  pub rows : new.rows ≡ old.rows
  pub each : (slot : ℕ) → slot < 64 * day_count c → slice_index_or new.dual_prices.fine slot 0
      ≡ followed_by (minimum c (slot / 64) (slot % 64 / 8) (slot % 8))
      (optimum c (slot / 64) (slot % 64 / 8) (slot % 8)) (slice_index_or old.rows.cover.items slot 0)
      (slice_index_or old.dual_prices.fine slot 0) step
