-- The memory of a run serves on if parts of it are replaced by others that fit.
use Rattle.std.proofs.Common.{◌≡◌, true}
use Rattle.roster_instance.specs.Meaning.{Meaning}
use Rattle.roster_instance.specs.Rosters.{Rows, fits_case}
use Rattle.roster_row.specs.Recalled.{RecallsSearches}
use Rattle.roster_row.specs.declared.last.LastSearches.{LastSearches}
use Rattle.roster_prices.specs.Workspaces.{FitsBound}
use Rattle.roster_prices.specs.declared.workspace.BoundWorkspace.{BoundWorkspace}
use Rattle.roster_polish.specs.Polished.{FitsPolish}
use Rattle.roster_polish.specs.declared.space.PolishSpace.{PolishSpace}

module _ {T : Type 0} (c : Meaning) (w : PolishSpace T) (fits : FitsPolish c w) where
  pub fits_with : (bounds : BoundWorkspace T) (last : LastSearches) (best : Rows) → FitsBound c bounds → RecallsSearches c last → fits_case c best ≡ true → FitsPolish c (record w { bounds = bounds; last = last; best = best })
  fits_with bounds last best fits_bounds recalls fits_best = record {
    bounds = fits_bounds;
    recalls = recalls;
    kept_recalls = fits.kept_recalls;
    dearer = fits.dearer;
    kept = fits.kept;
    fade_prices = fits.fade_prices;
    fade_recalls = fits.fade_recalls;
    faded = fits.faded;
    best = fits_best;
    first_prices = fits.first_prices;
    count = fits.count;
    order = fits.order;
  }
