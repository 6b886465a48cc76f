-- What the memory of a run has to fit.
use Rattle.std.specs.Prelude.{◌&&◌, Bool}
use Rattle.roster_instance.specs.Meaning.{Meaning}
use Rattle.roster_offers.specs.Workspaces.{fits_space}
use Rattle.roster_row.specs.Recalled.{fits_last}
use Rattle.roster_rounds.specs.declared.space.RunSpace.{RunSpace}

-- it fits the search of each nurse, and what the last search of each nurse found out
abbrev pub fits_run : {T : Type 0} → Meaning → RunSpace T → Bool
fits_run c space = fits_space c space.workspace && fits_last c space.last
