-- The memory of a run that raises a lower bound, and what a round counts.
use Rattle.std.specs.Prelude.{◌≡◌, ℕ, ◌+◌, ◌*◌, ◌≤◌, length, true}
use Rattle.roster_instance.specs.Meaning.{Meaning, day_count, nurse_count}
use Rattle.roster_laws.specs.Greatest.{greatest_extension_count}
use Rattle.roster_offers.specs.Workspaces.{fits_space}
use Rattle.roster_slots.specs.ColumnPool.{FitsPool}
use Rattle.roster_prices.specs.declared.workspace.BoundWorkspace.{BoundWorkspace}
use Rattle.roster_prices.specs.declared.workspace.RowSpace.{RowSpace}

-- for the search of each nurse, and for 64 slots for each day
pub record FitsRows {T : Type 0} (c : Meaning) (w : RowSpace T) : Type 0 where
  pub search : fits_space c w.workspace ≡ true
  pub cover : length w.cover.items ≡ 64 * day_count c

-- for two dual prices, a subgradient and a direction for each of these slots, and for a column pool
pub record FitsBound {T : Type 0} (c : Meaning) (w : BoundWorkspace T) : Type 0 where
  pub rows : FitsRows c w.rows
  pub dual_prices : w.dual_prices.days ≡ day_count c
  pub aside : w.aside.days ≡ day_count c
  pub subgradient : length w.directions.subgradient.items ≡ 64 * day_count c
  pub direction : length w.directions.direction.items ≡ 64 * day_count c
  pub pool : FitsPool c w.pool

-- a round is a search for each nurse: it counts at least one extension for each day, and at most as many as
-- the greatest search
pub record CountsRound (c : Meaning) (old new : ℕ) : Type 0 where
  pub made : old + nurse_count c * day_count c ≤ new
  pub counted : new ≤ old + nurse_count c * greatest_extension_count c
