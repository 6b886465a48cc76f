-- What the held roster, the kept one and the searches are after a fade or a kick was tried (our own).
use Rattle.std.specs.Prelude.{◌≡◌, ◌+◌, ◌≤◌, ℕ, Bool, false, true}
use Rattle.roster_bundle.specs.Limits.{greatest_u64}
use Rattle.roster_case.specs.Held.{HeldRoster}
use Rattle.roster_instance.specs.Meaning.{Meaning}
use Rattle.roster_instance.specs.Rosters.{Rows}
use Rattle.roster_rules.specs.Penalties.{penalty}
use Rattle.roster_laws.specs.FrozenDays.{FrozenDaysStay}
use Rattle.roster_polish.specs.declared.searches.Searches.{Searches}
use Rattle.roster_polish.specs.declared.space.PolishSpace.{PolishSpace}
use Rattle.roster_polish.specs.Polished.{FitsPolish}
use Rattle.roster_polish.specs.Settled.{IsSettled, Spends, extensions_of}

-- searches can be made: there is memory for the case, and the meter can count the searches that are left
pub record CanSearch {T K : Type 0} (c : Meaning) (searches : Searches K) (space : PolishSpace T)
    (meter : ℕ) : Type 0 where
  -- the memory is that of a run over the case
  pub fits : FitsPolish c space
  -- the meter can count all that these searches may
  pub room : meter + extensions_of c searches.left ≤ greatest_u64

-- a changed roster stays if it is settled and no dearer than the kept one; else the kept one comes back
pub record StaysNoDearer {T K : Type 0} (c : Meaning) (from : ℕ) (given : Rows)
    (held : HeldRoster) (searches_old searches : Searches K) (space : PolishSpace T) (meter_old meter : ℕ)
    (result : Bool) : Type 0 where
  -- the case is the same
  pub case : held.case ≡ c
  -- what is held is what is kept
  pub kept : space.kept ≡ held.roster
  -- if the roster stayed, no nurse has a cheaper row
  pub stayed : result ≡ true → IsSettled c from held.roster
  -- else it is the one that was kept
  pub back : result ≡ false → held.roster ≡ given
  -- the frozen days are as they were
  pub frozen : FrozenDaysStay c from given held.roster
  -- it costs no more
  pub no_dearer : penalty c held.roster ≤ penalty c given
  -- the searches were among those that were left, and the meter has counted them
  pub spends : Spends c meter_old searches_old.left meter searches.left
  -- the memory serves another try
  pub fits : FitsPolish c space

-- the held roster was changed, and is settled and kept if the result says so; the best one stays aside
pub record GoesOnSettled {T K : Type 0} (c : Meaning) (from : ℕ) (given : Rows)
    (held : HeldRoster) (searches_old searches : Searches K) (space_old space : PolishSpace T)
    (meter_old meter : ℕ) (result : Bool) : Type 0 where
  -- the case is the same
  pub case : held.case ≡ c
  -- what is held is what is kept
  pub kept : result ≡ true → space.kept ≡ held.roster
  -- no nurse has a cheaper row
  pub settled : result ≡ true → IsSettled c from held.roster
  -- the frozen days are as they were
  pub frozen : FrozenDaysStay c from given held.roster
  -- the best roster so far stays
  pub best : space.best ≡ space_old.best
  -- the searches were among those that were left, and the meter has counted them
  pub spends : Spends c meter_old searches_old.left meter searches.left
  -- the memory serves another try
  pub fits : FitsPolish c space

-- nurses were kicked out of their rows
pub record AreKicked {T K : Type 0} (from : ℕ) (held_old held : HeldRoster)
    (searches_old searches : Searches K) (space_old space : PolishSpace T)
    (meter_old meter : ℕ) : Type 0 where
  -- the case is the same
  pub case : held.case ≡ held_old.case
  -- what is kept stays
  pub kept : space.kept ≡ space_old.kept
  -- the frozen days are as they were
  pub frozen : FrozenDaysStay held_old.case from held_old.roster held.roster
  -- the searches were among those that were left, and the meter has counted them
  pub spends : Spends held_old.case meter_old searches_old.left meter searches.left
  -- the memory serves the descent
  pub fits : FitsPolish held_old.case space
