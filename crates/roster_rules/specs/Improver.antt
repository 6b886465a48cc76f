-- The improver: steps, rounds, runs, and the log of a run (our own).
use Rattle.std.specs.Prelude.{ℕ, zero, suc, ◌+◌, Bool, true, false, ◌&&◌, ◌==◌, nat_lt, if◌then◌else◌, List, [], ◌∷◌, ◌++◌, codes, decimal, Option, Some, None}
use Rattle.std.specs.List.{fold, range_with_len}
use Rattle.roster_instance.specs.Choices.{same_choice}
use Rattle.roster_instance.specs.Meaning.{Meaning, nurse_count, nurse_name}
use Rattle.roster_rules.specs.Penalties.{penalty}
use Rattle.roster_instance.specs.Rosters.{Row, Rows, with_row}

abbrev pub same_row : Row → Row → Bool
same_row [] [] = true
same_row [] (b ∷ bs) = false
same_row (a ∷ row) [] = false
same_row (a ∷ row) (b ∷ bs) = same_choice a b && same_row row bs

abbrev pub same_rows : Rows → Rows → Bool
same_rows [] [] = true
same_rows [] (b ∷ bs) = false
same_rows (a ∷ r) [] = false
same_rows (a ∷ r) (b ∷ bs) = same_row a b && same_rows r bs

-- ---- a function chooses the best row of a nurse, if any; for example `best_row` of a case

abbrev pub BestRows : Type 0
BestRows = Rows → ℕ → Option Row

-- ---- a step puts the nurse's best row in if that makes the roster strictly cheaper

abbrev pub if_cheaper : Meaning → Rows → Rows → Rows
if_cheaper c r new = if nat_lt (penalty c new) (penalty c r) then new else r

abbrev pub step_with : Meaning → Rows → ℕ → Option Row → Rows
step_with c r n None = r
step_with c r n (Some row) = if_cheaper c r (with_row r n row)

-- one nurse's step
unfoldable pub step : Meaning → BestRows → Rows → ℕ → Rows
step c best r n = step_with c r n (best r n)

-- ---- a round is one step for each nurse in order

-- a step for each nurse, in their order
unfoldable pub round : Meaning → BestRows → Rows → Rows
round c best r = fold (step c best) r (range_with_len 0 (nurse_count c))

-- ---- a run makes rounds until one changes nothing (settled), or until it has made the given number
-- (stopped)

-- the roster at the end of a run, and whether its last round changed nothing
pub record Run : Type 0 where
  pub roster : Rows
  pub is_settled : Bool

-- a run of at most the given number of rounds
unfoldable pub run : Meaning → BestRows → ℕ → Rows → Run
run c best zero r = record { roster = r; is_settled = false }
run c best (suc rounds) r =
    let next = round c best r in
    if same_rows next r then record { roster = r; is_settled = true } else run c best rounds next

-- ---- its log

-- what an entry of the log reports
pub data Event : Type 0 where
  started : Event
  -- in this round the row of this nurse was replaced
  changed : ℕ → ℕ → Event
  -- this round is done; rounds count from 1
  round_done : ℕ → Event
  settled : Event
  stopped : Event

-- an event, and the roster at that point
pub record Entry : Type 0 where
  pub event : Event
  pub roster : Rows

abbrev pub entry : Event → Rows → Entry
entry event r = record { event = event; roster = r }

-- the changes that the steps of these nurses make in round k
abbrev pub changes : Meaning → BestRows → ℕ → List ℕ → Rows → List Entry
changes c best k [] r = []
changes c best k (n ∷ ns) r =
    let next = step c best r n in
    (if same_rows next r then [] else entry (changed k n) next ∷ []) ++ changes c best k ns next

-- the entries of round k
abbrev pub round_log : Meaning → BestRows → ℕ → Rows → List Entry
round_log c best k r =
    changes c best k (range_with_len 0 (nurse_count c)) r ++ entry (round_done k) (round c best r) ∷ []

-- the entries of a run whose next round is the k-th
abbrev pub entries_from : Meaning → BestRows → ℕ → ℕ → Rows → List Entry
entries_from c best k zero r = entry stopped r ∷ []
entries_from c best k (suc rounds) r =
    let next = round c best r in
    round_log c best k r
    ++ (if same_rows next r then entry settled r ∷ [] else entries_from c best (k + 1) rounds next)

-- the log of a run: the start, the changes and the end of each round, and how the run ended
unfoldable pub log_of : Meaning → BestRows → ℕ → Rows → List Entry
log_of c best rounds r = entry started r ∷ entries_from c best 1 rounds r

-- the word of the first line; if a roster is kept, a line before it gives the points for each changed day
abbrev pub start_word : Meaning → List ℕ
start_word c = if c.keep == 0 then codes "start" else codes "keep " ++ decimal c.keep ++ codes "\nstart"

-- how an event is written
abbrev pub event_text : Meaning → Event → List ℕ
event_text c started = start_word c
event_text c (changed k n) = decimal k ++ codes " " ++ nurse_name c n
event_text c (round_done k) = codes "round " ++ decimal k
event_text c settled = codes "settled"
event_text c stopped = codes "stopped"

-- a line of a log or of a report: a text and a number
abbrev pub line : List ℕ → ℕ → List ℕ
line text n = text ++ codes " " ++ decimal n ++ codes "\n"

-- the line of an entry: the event, and the penalty of the roster at that point
abbrev pub line_of : Meaning → Entry → List ℕ
line_of c e = line (event_text c e.event) (penalty c e.roster)
