-- The weeks of a roster as they are written: solution i is week i, by the names of the case.
use Rattle.std.specs.Prelude.{ℕ, ◌+◌, ◌*◌, List, [], map, Option, Some, None, slice_index_or}
use Rattle.std.specs.List.{join_with_byte, range_with_len}
use Rattle.roster_bundle.specs.Canonical.{Shown, canonical}
use Rattle.roster_instance.specs.declared.choice.Choice.{Choice}
use Rattle.roster_instance.specs.declared.choice.Choice.TheVariants.{Off, Work}
use Rattle.roster_instance.specs.Meaning.{Meaning, nurse_count, nurse_name, week_count}
use Rattle.roster_instance.specs.Rosters.{Rows, choice_on, row_of}

-- the names of the shift and the skill that are worked
abbrev pub work_shown : Meaning → Choice → Option (List ℕ × List ℕ)
work_shown c Off = None
work_shown c (Work s k) = Some (slice_index_or c.shift_names s.0 [], slice_index_or c.skill_names k.0 [])

-- what is written of week i: its number, and what each nurse works on its seven days
abbrev pub shown_week : Meaning → Rows → ℕ → Shown
shown_week c r i = record {
  week = i;
  name = c.name;
  nurses = nurse_count c;
  nurse = nurse_name c;
  on = λ n w. work_shown c (choice_on (row_of r n) (7 * i + w));
}

-- a week of a roster
pub record WeekOf : Type 0 where
  pub case : Meaning
  pub roster : Rows
  pub week : ℕ

-- the canonical text of all weeks, with an empty line between two
unfoldable pub weeks_text : Meaning → Rows → List ℕ
weeks_text c r = join_with_byte 10 (map (λ i. canonical (shown_week c r i)) (range_with_len 0 (week_count c)))
