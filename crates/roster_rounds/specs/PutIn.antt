-- What a run does from one entry of its log to the next.
use Rattle.std.specs.Prelude.{◌≡◌, ℕ, ◌<◌, true, List, [], ◌∷◌}
use Rattle.roster_instance.specs.Meaning.{Meaning, nurse_count}
use Rattle.roster_instance.specs.Rosters.{Row, Rows, fits_case, with_row}
use Rattle.roster_rules.specs.AllowedRows.{IsFirstLeast, allowed_rows, penalty_with}
use Rattle.roster_rules.specs.HardRules.{keeps_hard}
use Rattle.roster_rules.specs.Improver.{Entry, Event, changed}
use Rattle.roster_rules.specs.Penalties.{penalty}

-- a roster as each accepted bundle has it: it fits its case and keeps the hard rules
abbrev pub IsAccepted : Meaning → Rows → Type 0
IsAccepted c r = (fits_case c r ≡ true) × (keeps_hard c r ≡ true)

-- the next roster is r with another row for nurse n: the first of least penalty among all allowed rows, and
-- strictly cheaper
pub record PutsBestRowIn (c : Meaning) (from : ℕ) (r : Rows) (n : ℕ) (next : Rows) : Type 0 where
  pub nurse : n < nurse_count c
  pub row : Row
  pub best : IsFirstLeast (penalty_with c r n) (allowed_rows c from r n) row
  pub next_is : next ≡ with_row r n row
  pub cheaper : penalty c next < penalty c r

-- what an event does to roster r: a change puts that nurse's best row in, and no other event changes the
-- roster
abbrev pub Does : Meaning → ℕ → Rows → Event → Rows → Type 0
Does c from r (changed k n) next = PutsBestRowIn c from r n next
Does c from r _ next = next ≡ r

-- each of these entries, from roster r on, does this to the roster of the entry before it
abbrev pub AllDo : Meaning → ℕ → Rows → List Entry → Type 0
AllDo c from r [] = Unit {0}
AllDo c from r (e ∷ later) = Does c from r e.event e.roster × AllDo c from e.roster later
