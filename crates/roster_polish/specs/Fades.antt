-- Rows that are faded, next to the kept roster (our own).
use Rattle.std.specs.Prelude.{◌≡◌, ◌+◌, ◌*◌, ◌≤◌, ℕ, Option}
use Rattle.roster_instance.specs.Meaning.{Meaning, day_count}
use Rattle.roster_instance.specs.Rosters.{Row}
use Rattle.roster_row.specs.Recalled.{RecallsSearchesAt}
use Rattle.roster_prices.specs.Nodes.{dual_prices_of}
use Rattle.roster_prices.specs.LowerBounds.{row_by_dual_prices}
use Rattle.roster_laws.specs.FrozenDays.{FrozenDaysStay}
use Rattle.roster_prices.specs.declared.offers.Base.{Base}
use Rattle.roster_prices.specs.declared.offers.Terms.{Terms}
use Rattle.roster_polish.specs.declared.kick.Kicking.{Kicking}
use Rattle.roster_polish.specs.declared.space.PolishSpace.{PolishSpace}
use Rattle.roster_polish.specs.Polished.{FitsPolish}
use Rattle.roster_polish.specs.Settled.{Spends}

-- each search that is no longer left was made: it counted at least one extension for each day
abbrev pub AreMade : Meaning → (meter left new_meter new_left : ℕ) → Type 0
AreMade c meter left new_meter new_left = meter + left * day_count c ≤ new_meter + new_left * day_count c

-- rows were faded from given ones: the kept ones, the best ones, the frozen days and the end of the time
-- stay, searches were made that were left, and the last ones are remembered
pub record AreFaded {T K : Type 0} (base : Base) (kicking_old kicking : Kicking K)
    (space_old space : PolishSpace T) (meter_old meter : ℕ) : Type 0 where
  pub kept : space.kept ≡ space_old.kept
  pub best : space.best ≡ space_old.best
  pub frozen : FrozenDaysStay base.case.now base.from base.given.now space.faded
  pub passes : kicking.passes ≡ kicking_old.passes
  pub ends : kicking.searches.deadline.ends ≡ kicking_old.searches.deadline.ends
  pub made : AreMade base.case.now meter_old kicking_old.searches.left meter kicking.searches.left
  pub spends : Spends base.case.now meter_old kicking_old.searches.left meter kicking.searches.left
  pub recalls : RecallsSearchesAt base.case.now base.scale space.fade_last
  pub fits : FitsPolish base.case.now space

-- the nurse's first best row by what slots pay
abbrev pub best_by_terms : Terms → (n : ℕ) → Option Row
best_by_terms t n =
    row_by_dual_prices t.case.now t.from t.given.now t.scale (dual_prices_of t) n
