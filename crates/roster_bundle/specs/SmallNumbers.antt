-- The numbers in pairs, contracts and history lines of a bundle are from 0 to 999 (the format; the range is
-- our profile).
use Rattle.std.specs.Prelude.{◌≤◌, All}
use Rattle.roster_bundle.specs.declared.bundle.Bundle.{Bundle}
use Rattle.roster_bundle.specs.declared.bundle.Contract.{Contract}
use Rattle.roster_bundle.specs.declared.bundle.NurseHistory.{NurseHistory}
use Rattle.roster_bundle.specs.declared.bundle.Pair.{Pair}
use Rattle.roster_bundle.specs.declared.bundle.Requirement.{Requirement}
use Rattle.roster_bundle.specs.declared.bundle.ShiftType.{ShiftType}
use Rattle.roster_bundle.specs.declared.bundle.WeekData.{WeekData}
use Rattle.roster_bundle.specs.declared.bundle.WeekPairs.{WeekPairs}
use Rattle.roster_bundle.specs.Limits.{most_small}

-- both numbers of a pair
pub record IsSmallPair (p : Pair) : Type 0 where
  pub least : p.least ≤ most_small
  pub greatest : p.greatest ≤ most_small

-- the numbers of a contract, except the flag
pub record IsSmallContract (c : Contract) : Type 0 where
  pub total : IsSmallPair c.total
  pub working : IsSmallPair c.working
  pub free : IsSmallPair c.free
  pub weekends : c.weekends ≤ most_small

-- the five numbers of a history line
pub record IsSmallLine (h : NurseHistory) : Type 0 where
  pub assignments : h.assignments ≤ most_small
  pub weekends : h.weekends ≤ most_small
  pub shift_run : h.shift_run ≤ most_small
  pub working_run : h.working_run ≤ most_small
  pub free_run : h.free_run ≤ most_small

-- the pairs of a week
pub record AreSmallPairs (w : WeekPairs) : Type 0 where
  pub monday : IsSmallPair w.monday
  pub tuesday : IsSmallPair w.tuesday
  pub wednesday : IsSmallPair w.wednesday
  pub thursday : IsSmallPair w.thursday
  pub friday : IsSmallPair w.friday
  pub saturday : IsSmallPair w.saturday
  pub sunday : IsSmallPair w.sunday

-- the requirements of a week
abbrev pub AreSmallNeeds : WeekData → Type 0
AreSmallNeeds w = All (λ (r : Requirement). AreSmallPairs r.days) w.requirements

-- all small numbers of a bundle
pub record SaysSmallNumbers (b : Bundle) : Type 0 where
  pub runs : All (λ (s : ShiftType). IsSmallPair s.run) b.scenario.shifts.items
  pub contracts : All IsSmallContract b.scenario.contracts.items
  pub history : All IsSmallLine b.history.nurses
  pub needs : All AreSmallNeeds b.week_data
