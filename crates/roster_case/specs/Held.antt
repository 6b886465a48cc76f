-- A roster that keeps the hard rules, and counts that are kept up to date, so that it needn't be recounted.
use Rattle.std.specs.Prelude.{◌≡◌, ◌<◌, ℕ, true, [], Some, length, slice_index_or}
use Rattle.roster_instance.specs.Faults.{first_fault}
use Rattle.roster_instance.specs.Meaning.{Meaning, day_count, nurse_count, optimum}
use Rattle.roster_instance.specs.Rosters.{Rows, cover, days_of_nurse, fits_case}
use Rattle.roster_rules.specs.Covers.{AreCovers}
use Rattle.roster_rules.specs.HardRules.{hard_faults, keeps_hard}
use Rattle.roster_rules.specs.Penalties.{nurse_cost, staffing_cost}
use Rattle.roster_laws.specs.Staffing.{shortfall}
use Rattle.roster_case.specs.declared.counts.Counts.{Counts}
use Rattle.roster_case.specs.declared.counts.DayCounts.{DayCounts}
use Rattle.roster_case.specs.declared.held.HeldFault.{HeldFault}
use Rattle.roster_case.specs.declared.held.HeldFault.TheVariants.{Hard, Memory}

-- the case and the roster
pub record HeldRoster : Type 0 where
  pub case : Meaning
  pub roster : Rows

-- the counts of an empty day
abbrev pub no_day : DayCounts
no_day = record { covers = []; shortfall = 0 }

-- the counts of a day: the cover of each slot, and by how many nurses the day is short of its optimums
pub record IsDay (c : Meaning) (r : Rows) (d : ℕ) (counts : DayCounts) : Type 0 where
  pub covers : AreCovers r d counts.covers
  pub is_short : counts.shortfall ≡ shortfall c (optimum c d) (cover r d)

-- all counts: those of each day, what each nurse costs, and what the staffing costs
pub record AreCounts (c : Meaning) (r : Rows) (counts : Counts) : Type 0 where
  pub days : length counts.days.items ≡ day_count c
  pub counted : (d : ℕ) → d < day_count c → IsDay c r d (slice_index_or counts.days.items d no_day)
  pub nurses : length counts.nurse_costs.items ≡ nurse_count c
  pub costs : (n : ℕ) → n < nurse_count c
      → slice_index_or counts.nurse_costs.items n 0 ≡ nurse_cost c n (days_of_nurse r n)
  pub staffing : counts.staffing_cost ≡ staffing_cost c r

-- what always holds of a held roster
pub record IsHeld (c : Meaning) (r : Rows) (counts : Counts) : Type 0 where
  pub fits : fits_case c r ≡ true
  pub keeps : keeps_hard c r ≡ true
  pub counted : AreCounts c r counts

-- a refusal returns the same case and roster, with the first breach of the hard rules, or for want of memory
-- if there is none
abbrev pub IsHandedBack : Meaning → Rows → HeldFault → Type 0
IsHandedBack c r (Hard fault case roster) =
    (first_fault (hard_faults c r) ≡ Some fault) × (case ≡ c) × (roster ≡ r)
IsHandedBack c r (Memory case roster) = (hard_faults c r ≡ []) × (case ≡ c) × (roster ≡ r)
