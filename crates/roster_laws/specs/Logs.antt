-- What the log of a run says.
use Rattle.std.specs.Prelude.{◌≡◌, ℕ, ◌+◌, ◌≤◌, Bool, true, false, List, [], ◌∷◌, ◌++◌, All, count_by, if◌then◌else◌}
use Rattle.roster_rules.specs.Improver.{BestRows, Entry, Event, Run, changed, log_of, round_done, run, settled, stopped}
use Rattle.roster_instance.specs.Meaning.{Meaning}
use Rattle.roster_rules.specs.HardRules.{keeps_hard}
use Rattle.roster_rules.specs.Penalties.{penalty, penalty_unit}
use Rattle.roster_instance.specs.Rosters.{Rows, fits_case}

-- ---- counts: the steps that replaced a row, and the rounds that were made

abbrev pub is_change : Event → Bool
is_change (changed k n) = true
is_change _ = false

abbrev pub is_round : Event → Bool
is_round (round_done k) = true
is_round _ = false

-- the number of entries about a changed row
abbrev pub changes_in : List Entry → ℕ
changes_in entries = count_by (λ e. is_change e.event) entries

-- the number of entries about a round that is done
abbrev pub rounds_in : List Entry → ℕ
rounds_in entries = count_by (λ e. is_round e.event) entries

-- ---- what is reported of a run: whether it is settled, its rounds and changes, and the penalty at its end

-- how a run ended, the numbers of rounds and changes in its log, and the penalty of its last roster
pub record RunEnd : Type 0 where
  pub is_settled : Bool
  pub rounds : ℕ
  pub changes : ℕ
  pub total : ℕ

abbrev pub end_of : Meaning → BestRows → ℕ → Rows → RunEnd
end_of c best rounds r = record {
  is_settled = (run c best rounds r).is_settled;
  rounds = rounds_in (log_of c best rounds r);
  changes = changes_in (log_of c best rounds r);
  total = penalty c (run c best rounds r).roster;
}

-- ---- the end

-- the event that ends the log of a run
abbrev pub ending : Run → Event
ending r = if r.is_settled then settled else stopped

-- these entries end with this one
pub record EndsWith (entries : List Entry) (last : Entry) : Type 0 where
  pub before : List Entry
  pub split : entries ≡ before ++ last ∷ []

-- ---- the rosters on the way

-- each entry's roster fits the case and keeps the hard rules
abbrev pub EachKeeps : Meaning → List Entry → Type 0
EachKeeps c entries = All (λ e. (fits_case c e.roster ≡ true) × (keeps_hard c e.roster ≡ true)) entries

-- so does the roster at the end of a run
abbrev pub EndKeeps : Meaning → Run → Type 0
EndKeeps c r = (fits_case c r.roster ≡ true) × (keeps_hard c r.roster ≡ true)

-- ---- from an entry to a later one the penalty doesn't rise, and to a change it falls

-- from an entry to a later one the penalty doesn't rise, and to a change it falls by at least the unit
pub record Descends (c : Meaning) (e later : Entry) : Type 0 where
  pub never_rises : penalty c later.roster ≤ penalty c e.roster
  pub falls : is_change later.event ≡ true → penalty c later.roster + penalty_unit c ≤ penalty c e.roster
