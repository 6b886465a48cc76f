-- What a search in a neighbourhood leaves, next to the kept roster (our own).
use Rattle.std.specs.Prelude.{◌≡◌, ℕ}
use Rattle.roster_instance.specs.Meaning.{Meaning}
use Rattle.roster_polish.specs.declared.searches.Searches.{Searches}
use Rattle.roster_polish.specs.declared.space.PolishSpace.{PolishSpace}
use Rattle.roster_polish.specs.Polished.{FitsPolish}
use Rattle.roster_polish.specs.Settled.{Spends}

-- a neighbourhood was searched: the kept roster and the best one stay, searches were made that were left, and
-- the memory serves the descent
pub record AreFound {T K : Type 0} (c : Meaning) (searches_old searches : Searches K)
    (space_old space : PolishSpace T) (meter_old meter : ℕ) : Type 0 where
  pub kept : space.kept ≡ space_old.kept
  pub best : space.best ≡ space_old.best
  pub spends : Spends c meter_old searches_old.left meter searches.left
  pub fits : FitsPolish c space
