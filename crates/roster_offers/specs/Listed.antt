-- What a search that lists rows leaves of the memory of its list.
use Rattle.std.specs.Prelude.{◌≡◌, ℕ, ◌≤◌, length}
use Rattle.roster_offers.specs.declared.listed.RowList.{RowList}

-- the cost of a row that isn't listed, and the index of its offers
abbrev pub no_cost : ℕ
no_cost = 4294967295

abbrev pub no_index : ℕ
no_index = 255

-- it has capacity for as many rows and days as before, and holds no more rows than that
pub record KeepsList (old new : RowList) : Type 0 where
  pub days : new.days ≡ old.days
  pub costs : length new.costs.items ≡ length old.costs.items
  pub indices : length new.indices.items ≡ length old.indices.items
  pub walk : length new.walk.items ≡ length old.walk.items
  pub few : old.held ≤ length old.costs.items → new.held ≤ length new.costs.items
