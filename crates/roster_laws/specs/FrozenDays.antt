-- What steps preserve of a roster.
use Rattle.std.specs.Prelude.{◌≡◌, ◌<◌, ℕ, true}
use Rattle.roster_rules.specs.AllowedRows.{is_frozen}
use Rattle.roster_instance.specs.Meaning.{Meaning, day_count}
use Rattle.roster_instance.specs.Rosters.{Rows, choice_on, row_of}

-- on each frozen day each nurse has the same choice as before
abbrev pub FrozenDaysStay : Meaning → ℕ → (before after : Rows) → Type 0
FrozenDaysStay c from before after =
    (n d : ℕ) → d < day_count c → is_frozen c from n d ≡ true
    → choice_on (row_of after n) d ≡ choice_on (row_of before n) d
