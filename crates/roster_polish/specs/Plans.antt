-- What a plan makes of a roster that may break the hard rules (our own).
use Rattle.std.specs.Prelude.{◌≡◌, ℕ, ◌≤◌, ◌⊎◌, ◌&&◌, Bool, false, true}
use Rattle.roster_instance.specs.Faults.{is_none_of}
use Rattle.roster_instance.specs.Meaning.{Meaning}
use Rattle.roster_instance.specs.Rosters.{Rows}
use Rattle.roster_rules.specs.HardRules.{absence_faults, keeps_hard, succession_faults}
use Rattle.roster_laws.specs.FrozenDays.{FrozenDaysStay}
use Rattle.roster_costs.specs.Minimums.{missing}
use Rattle.roster_timer.specs.Deadlines.{is_up, time_of}
use Rattle.roster_polish.specs.declared.plan.Rest.{Rest}

-- no row breaks a succession or an absence
abbrev pub keeps_rows : Meaning → Rows → Bool
keeps_rows c r = is_none_of (succession_faults c r) && is_none_of (absence_faults c r)

-- a roster that breaks a hard rule is short of no more nurses than the given one, if that breaks minimums
-- alone
abbrev pub IsNoFarther : Meaning → (given r : Rows) → Type 0
IsNoFarther c given r = keeps_hard c r ≡ false → keeps_rows c given ≡ true → missing c r ≤ missing c given

-- no search is left, or a reading of the clock said that the time is up
abbrev pub IsUsedUp : {K : Type 0} → Rest K → Type 0
IsUsedUp rest = (rest.searches ≡ 0) ⊎ (is_up (time_of rest.deadline) ≡ true)

-- what a plan makes of a given roster: one that keeps the hard rules stays, and else it gets no farther, with
-- its frozen days
pub record IsPlanned (c : Meaning) (from : ℕ) (given r : Rows) : Type 0 where
  pub kept : keeps_hard c given ≡ true → r ≡ given
  pub nearer : IsNoFarther c given r
  pub stays : FrozenDaysStay c from given r
