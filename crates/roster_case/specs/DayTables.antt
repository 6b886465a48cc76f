-- The choices that a day's table counts, and the shortfall of the day.
use Rattle.std.specs.Prelude.{◌<◌, List, ℕ}
use Rattle.roster_instance.specs.declared.choice.Choice.{Choice}
use Rattle.roster_instance.specs.declared.choice.Choice.TheVariants.{Off, Work}
use Rattle.roster_instance.specs.Limits.{most_shifts, most_skills}
use Rattle.roster_instance.specs.Meaning.{Meaning, optimum}
use Rattle.roster_rules.specs.Covers.{number_at}
use Rattle.roster_laws.specs.Staffing.{shortfall, with_choice}

-- the shift and the skill that are worked, if any, have an index in the table
abbrev pub HasSlot : Choice → Type 0
HasSlot Off = Unit {0}
HasSlot (Work s k) = (s.0 < most_shifts) × (k.0 < most_skills)

-- the choice is counted at its index
abbrev pub IsCounted : List ℕ → Choice → Type 0
IsCounted table Off = Unit {0}
IsCounted table (Work s k) = 0 < number_at table s.0 k.0

-- by how many nurses a day is short of its optimums, with one more nurse who has this choice
abbrev pub shortfall_with : Meaning → ℕ → (ℕ → ℕ → ℕ) → Choice → ℕ
shortfall_with c day have choice = shortfall c (optimum c day) (with_choice have choice)
