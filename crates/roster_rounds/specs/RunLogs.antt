-- The text of a run's log, and a run whose log a writer took completely or in part (our own).
use Rattle.std.specs.Prelude.{◌≡◌, ℕ, ◌+◌, ◌<◌, ◌≤◌, List, [], ◌∷◌, ◌++◌, length, flat_map, Option}
use Rattle.std.specs.List.{range_with_len}
use Rattle.roster_text.specs.Io.{Sends, StopsAt, Watched, Writes, saturated}
use Rattle.roster_text.specs.declared.fault.WriteFault.{WriteFault}
use Rattle.roster_text.specs.declared.fault.WriteFault.TheVariants.{WriteFailed}
use Rattle.roster_instance.specs.Limits.{most_nurses}
use Rattle.roster_instance.specs.Meaning.{Meaning, nurse_count}
use Rattle.roster_instance.specs.Rosters.{Rows}
use Rattle.roster_rules.specs.Improver.{BestRows, Entry, changes, line_of, log_of, round, round_log, run}
use Rattle.roster_laws.specs.Logs as laws
use Rattle.roster_reports.specs.declared.log_fault.LogFault.{LogFault}
use Rattle.roster_reports.specs.declared.log_fault.LogFault.TheVariants.{LogFailed}
use Rattle.roster_rounds.specs.declared.outcome.Outcome.{Outcome}

-- the text of some entries
abbrev pub text_of : Meaning → List Entry → List ℕ
text_of c entries = flat_map (line_of c) entries

-- what is reported of a run's end
abbrev pub run_end : Outcome → laws.RunEnd
run_end outcome =
    record {
      is_settled = outcome.settled;
      rounds = outcome.rounds;
      changes = outcome.changes;
      total = outcome.total;
    }

-- ---- a writer that stops

-- among the lines of these entries all of `done` went out, the line of `next` did not go out completely, and
-- the roster is that of `next`
pub record StopsAmong {W : Type 0} (contents : W → Option (List ℕ)) (c : Meaning) (entries : List Entry)
    (roster : Rows) (old new : Watched W) (sent : ℕ) : Type 0 where
  pub done : List Entry
  pub next : Entry
  pub rest : List Entry
  pub split : entries ≡ done ++ next ∷ rest
  pub stops : StopsAt contents old new (text_of c entries) sent
  pub whole : length (text_of c done) ≤ sent
  pub broken : sent < length (text_of c (done ++ next ∷ []))
  pub roster_is : roster ≡ next.roster

-- the same for a part of the log; the fault counts from the log's beginning
pub record BreaksAmong {W : Type 0} (contents : W → Option (List ℕ)) (c : Meaning) (entries : List Entry)
    (roster : Rows) (old new : Watched W) (before : ℕ) (fault : WriteFault) : Type 0 where
  pub sent : ℕ
  pub stops : StopsAmong contents c entries roster old new sent
  pub counted : fault ≡ WriteFailed (saturated (before + sent))

-- the same for a whole log
pub record LogStops {W : Type 0} (contents : W → Option (List ℕ)) (c : Meaning) (best : BestRows) (rounds : ℕ)
    (before after : Rows) (old new : Watched W) (fault : LogFault) : Type 0 where
  pub sent : ℕ
  pub stops : StopsAmong contents c (log_of c best rounds before) after old new sent
  pub counted : fault ≡ LogFailed (saturated sent)

-- ---- a writer that takes everything

-- a round was made, and its lines were sent
pub record RoundMade {W : Type 0} (contents : W → Option (List ℕ)) (c : Meaning) (best : BestRows) (k : ℕ)
    (before after : Rows) (old new : Watched W) (sent_before sent : ℕ) (count : ℕ) : Type 0 where
  pub roster_is : after ≡ round c best before
  pub sends : Sends contents old new sent_before sent (text_of c (round_log c best k before))
  pub counted : count ≡ length (changes c best k (range_with_len 0 (nurse_count c)) before)
  pub few : count ≤ most_nurses

-- a run was made, and its log went out
pub record Ran {W : Type 0} (contents : W → Option (List ℕ)) (c : Meaning) (best : BestRows) (rounds : ℕ)
    (before after : Rows) (old new : Watched W) (outcome : Outcome) : Type 0 where
  pub roster_is : after ≡ (run c best rounds before).roster
  pub writes : Writes contents old new (text_of c (log_of c best rounds before))
  pub outcome_is : run_end outcome ≡ laws.end_of c best rounds before
