-- A run: the rounds so far are made, and their lines are sent.
use Rattle.std.proofs.Common.{◌≡◌, ◌∙◌, ◌+◌, ◌-◌, ◌*◌, ◌<◌, ◌≤◌, ℕ, suc, Bool, true, false, ap, arith, sym, refl, List, [], ◌∷◌, ◌++◌, Option, length, append_assoc, append-nil, zero-add}
use Rattle.std.specs.List.{range_with_len}
use Rattle.roster_text.specs.declared.fault.WriteFault.{WriteFault}
use Rattle.roster_text.specs.Io.{Watched, Sends, BreaksIn, sent_of, saturated}
use Rattle.roster_rules.specs.Improver.{BestRows, round_log, Entry, Run, entry, started, settled, stopped, round, run, changes, entries_from, log_of, line_of, same_rows}
use Rattle.roster_instance.specs.Limits.{most_nurses}
use Rattle.roster_instance.specs.Meaning.{Meaning, nurse_count}
use Rattle.roster_rules.specs.Penalties.{penalty}
use Rattle.roster_instance.specs.Rosters.{Rows}
use Rattle.roster_laws.specs.Logs.{changes_in, end_of, rounds_in}
use Rattle.roster_laws.specs.Logs as laws
use Rattle.roster_laws.proofs.Rounds.{changes_in-append, changes_in-round, round_stays, rounds_in-append, rounds_in-round, stays_none}
use Rattle.roster_laws.proofs.Runs.{entries-goes_on, entries-settled, run-goes_on, run-settled, run-stopped}
use Rattle.roster_laws.proofs.SameRows.{same_rows_is}
use Rattle.roster_rounds.specs.RunLogs.{BreaksAmong, LogStops, Ran, RoundMade, text_of}
use Rattle.roster_reports.specs.declared.log_fault.LogFault.TheVariants.{LogFailed}
use Rattle.roster_rounds.proofs.Sent.{BreaksAmong-after, BreaksAmong-front, BreaksAmong-one, Sends-entries, Sends-one}

-- ---- a run, a round at a time

-- what follows a round
following : Meaning → BestRows → ℕ → ℕ → Rows → Bool → List Entry
following c best k m r true = entry settled r ∷ []
following c best k m r false = entries_from c best (k + 1) m (round c best r)

entries-split : (c : Meaning) (best : BestRows) (k m : ℕ) (r : Rows) (b : Bool) → same_rows (round c best r) r ≡ b → entries_from c best k (suc m) r ≡ round_log c best k r ++ following c best k m r b
unfolding following
entries-split c best k m r true e = rw e refl
entries-split c best k m r false e = rw e refl

-- a round with a change
round_moves : (c : Meaning) (best : BestRows) (k : ℕ) (r : Rows) → 0 < length (changes c best k (range_with_len 0 (nurse_count c)) r) → same_rows (round c best r) r ≡ false
round_moves c best k r some = go (same_rows (round c best r) r) refl
  where
    go : (b : Bool) → same_rows (round c best r) r ≡ b → b ≡ false
    go true same = absurd (omega (arith, some, stays_none c best k r same))
    go false same = refl

abbrev pub ended : Rows → Bool → Run
ended r is_settled = record { roster = r; is_settled = is_settled }

abbrev pub record_of : Bool → ℕ → ℕ → ℕ → laws.RunEnd
record_of is_settled made count total = record { is_settled = is_settled; rounds = made; changes = count; total = total }

-- ---- the first `made` rounds of a run that began with the roster r

pub record Going {W : Type 0} (contents : W → Option (List ℕ)) (c : Meaning) (best : BestRows) (rounds : ℕ) (r now : Rows) (old mid : Watched W) (sent count made : ℕ) : Type 0 where
  pub done : List Entry
  pub split : log_of c best rounds r ≡ done ++ entries_from c best (made + 1) (rounds - made) now
  pub run_is : run c best rounds r ≡ run c best (rounds - made) now
  pub sends : Sends contents old mid 0 sent (text_of c done)
  pub counted : count ≡ changes_in done
  pub rounds_are : made ≡ rounds_in done
  pub few : count ≤ most_nurses * made

module _ {W : Type 0} (contents : W → Option (List ℕ)) (c : Meaning) (best : BestRows) (rounds : ℕ) (r : Rows) (old : Watched W) where
  outcome_from : (is_settled : Bool) (made count total : ℕ) → is_settled ≡ (run c best rounds r).is_settled → made ≡ rounds_in (log_of c best rounds r) → count ≡ changes_in (log_of c best rounds r)
      → total ≡ penalty c (run c best rounds r).roster → record_of is_settled made count total ≡ end_of c best rounds r
  outcome_from is_settled made count total e f g h = rw (e, f, g, h) refl

  -- the log stops at a fault
  log_stops : (now : Rows) (new : Watched W) (fault : WriteFault) → BreaksAmong contents c (log_of c best rounds r) now old new 0 fault → LogStops contents c best rounds r now old new (LogFailed (sent_of fault))
  log_stops now new fault p = record {
    sent = p.sent;
    stops = p.stops;
    counted = ap (λ f. LogFailed (sent_of f)) p.counted ∙ ap (λ n. LogFailed (saturated n)) (zero-add p.sent);
  }

  pub start_breaks : (new : Watched W) (fault : WriteFault) → BreaksIn contents old new 0 (line_of c (entry started r)) fault → LogStops contents c best rounds r r old new (LogFailed (sent_of fault))
  unfolding log_of
  start_breaks new fault p =
      log_stops r new fault (BreaksAmong-front contents c (entry started r ∷ []) (entries_from c best 1 rounds r) r old new 0 fault (BreaksAmong-one contents c (entry started r) r old new 0 fault refl p))

  pub Going-start : (new : Watched W) (sent : ℕ) → Sends contents old new 0 sent (line_of c (entry started r)) → Going contents c best rounds r r old new sent 0 0
  unfolding log_of
  Going-start new sent p =
      let all : rounds ≡ rounds - 0 = omega arith in
      record {
        done = entry started r ∷ [];
        split = ap (λ m. entry started r ∷ entries_from c best 1 m r) all;
        run_is = ap (λ m. run c best m r) all;
        sends = Sends-one contents c old new 0 sent (entry started r) p;
        counted = refl;
        rounds_are = refl;
        few = omega arith;
      }

  -- a fault in the lines that come next
  breaks : (now after : Rows) (mid new : Watched W) (sent count made : ℕ) (ahead rest : List Entry) (fault : WriteFault) → Going contents c best rounds r now old mid sent count made
      → entries_from c best (made + 1) (rounds - made) now ≡ ahead ++ rest → BreaksAmong contents c ahead after mid new sent fault → LogStops contents c best rounds r after old new (LogFailed (sent_of fault))
  breaks now after mid new sent count made ahead rest fault p next q =
      log_stops after new fault (rw (p.split, next)
      (BreaksAmong-after contents c p.done (ahead ++ rest) after old mid new 0 sent fault p.sends (BreaksAmong-front contents c ahead rest after mid new sent fault q)))

  pub round_breaks : (now after : Rows) (mid new : Watched W) (sent count made : ℕ) (fault : WriteFault) → Going contents c best rounds r now old mid sent count made → made < rounds
      → BreaksAmong contents c (round_log c best (made + 1) now) after mid new sent fault → LogStops contents c best rounds r after old new (LogFailed (sent_of fault))
  round_breaks now after mid new sent count made fault p within q =
      let m = rounds - (made + 1) in
      let more : rounds - made ≡ suc m = omega arith in
      breaks now after mid new sent count made (round_log c best (made + 1) now) (following c best (made + 1) m now (same_rows (round c best now) now)) fault p
      (ap (λ m. entries_from c best (made + 1) m now) more ∙ entries-split c best (made + 1) m now (same_rows (round c best now) now) refl) q

  -- a round that changed something
  pub Going-round : (now next : Rows) (mid new : Watched W) (sent after count made n : ℕ) → Going contents c best rounds r now old mid sent count made → made < rounds
      → RoundMade contents c best (made + 1) now next mid new sent after n → 0 < n → Going contents c best rounds r next old new after (count + n) (made + 1)
  Going-round now next mid new sent after count made n p within q some =
      let k = made + 1 in
      let m = rounds - k in
      let more : rounds - made ≡ suc m = omega arith in
      let n_is : n ≡ length (changes c best k (range_with_len 0 (nurse_count c)) now) = q.counted in
      let differs = round_moves c best k now (omega (arith, n_is, some)) in
      let count_is : count ≡ changes_in p.done = p.counted in
      let made_is : made ≡ rounds_in p.done = p.rounds_are in
      let count_few : count ≤ most_nurses * made = p.few in
      let few : n ≤ most_nurses = q.few in
      let step_run = ap (λ m. run c best m now) more ∙ run-goes_on c best m now differs in
      let step_log = ap (λ m. entries_from c best k m now) more ∙ entries-goes_on c best k m now differs in
      record {
        done = p.done ++ round_log c best k now;
        split = p.split ∙ ap (λ l. p.done ++ l) step_log ∙ ap (λ s. p.done ++ (round_log c best k now ++ entries_from c best (k + 1) m s)) (sym q.roster_is)
            ∙ sym (append_assoc p.done (round_log c best k now) (entries_from c best (k + 1) m next));
        run_is = p.run_is ∙ step_run ∙ ap (run c best m) (sym q.roster_is);
        sends = Sends-entries contents c old mid new 0 sent after p.done (round_log c best k now) p.sends q.sends;
        counted = omega (arith, count_is, n_is, changes_in-append p.done (round_log c best k now), changes_in-round c best k now);
        rounds_are = omega (arith, made_is, rounds_in-append p.done (round_log c best k now), rounds_in-round c best k now);
        few = omega (arith, count_few, few);
      }

  -- the end of a run
  ends : (now : Rows) (mid new : Watched W) (sent after : ℕ) (done : List Entry) (end : Entry) (total : ℕ) → log_of c best rounds r ≡ done ++ end ∷ [] → now ≡ end.roster
      → Sends contents old mid 0 sent (text_of c done) → Sends contents mid new sent after (line_of c end) → Sends contents old new 0 after (text_of c (log_of c best rounds r))
  ends now mid new sent after done end total split at p q = rw split (Sends-entries contents c old mid new 0 sent after done (end ∷ []) p (Sends-one contents c mid new sent after end q))

  pub Going-stopped : (now : Rows) (mid new : Watched W) (sent after count made total : ℕ) → Going contents c best rounds r now old mid sent count made → made ≡ rounds → total ≡ penalty c now
      → Sends contents mid new sent after (line_of c (entry stopped now)) → Ran contents c best rounds r now old new (record { settled = false; rounds = rounds; changes = count; total = total })
  Going-stopped now mid new sent after count made total p all total_is q =
      let none : rounds - made ≡ 0 = omega arith in
      let split = p.split ∙ ap (λ m. p.done ++ entries_from c best (made + 1) m now) none in
      let run_is = p.run_is ∙ ap (λ m. run c best m now) none ∙ run-stopped c best now in
      let count_is : count ≡ changes_in p.done = p.counted in
      let made_is : made ≡ rounds_in p.done = p.rounds_are in
      let changes_are : count ≡ changes_in (log_of c best rounds r) = omega (arith, count_is, ap changes_in split, changes_in-append p.done (entry stopped now ∷ [])) in
      let rounds_are : rounds ≡ rounds_in (log_of c best rounds r) = omega (arith, all, made_is, ap rounds_in split, rounds_in-append p.done (entry stopped now ∷ [])) in
      record {
        roster_is = sym (ap (λ (e : Run). e.roster) run_is);
        writes = (ends now mid new sent after p.done (entry stopped now) total split refl p.sends q).writes;
        outcome_is = outcome_from false rounds count total (sym (ap (λ (e : Run). e.is_settled) run_is)) rounds_are changes_are (total_is ∙ ap (penalty c) (sym (ap (λ (e : Run). e.roster) run_is)));
      }

  pub stopped_breaks : (now : Rows) (mid new : Watched W) (sent count made : ℕ) (fault : WriteFault) → Going contents c best rounds r now old mid sent count made → made ≡ rounds
      → BreaksIn contents mid new sent (line_of c (entry stopped now)) fault → LogStops contents c best rounds r now old new (LogFailed (sent_of fault))
  stopped_breaks now mid new sent count made fault p all q =
      let none : rounds - made ≡ 0 = omega arith in
      breaks now now mid new sent count made (entry stopped now ∷ []) [] fault p (ap (λ m. entries_from c best (made + 1) m now) none) (BreaksAmong-one contents c (entry stopped now) now mid new sent fault refl q)

  -- a round that changed nothing
  pub Going-settled : (now next : Rows) (mid between new : Watched W) (sent sent_more after count made n total : ℕ) → Going contents c best rounds r now old mid sent count made → made < rounds
      → RoundMade contents c best (made + 1) now next mid between sent sent_more n → n ≡ 0 → total ≡ penalty c next → Sends contents between new sent_more after (line_of c (entry settled next))
      → Ran contents c best rounds r next old new (record { settled = true; rounds = made + 1; changes = count + n; total = total })
  Going-settled now next mid between new sent sent_more after count made n total p within q none total_is s =
      let k = made + 1 in
      let m = rounds - k in
      let more : rounds - made ≡ suc m = omega arith in
      let n_is : n ≡ length (changes c best k (range_with_len 0 (nurse_count c)) now) = q.counted in
      let same = round_stays c best k now (sym n_is ∙ none) in
      let stays : next ≡ now = q.roster_is ∙ same_rows_is (round c best now) now same in
      let done = p.done ++ round_log c best k now in
      let split : log_of c best rounds r ≡ done ++ entry settled next ∷ [] =
      p.split ∙ ap (λ l. p.done ++ l) (ap (λ m. entries_from c best k m now) more ∙ entries-settled c best k m now same) ∙ ap (λ s. p.done ++ (round_log c best k now ++ entry settled s ∷ [])) (sym stays)
      ∙ sym (append_assoc p.done (round_log c best k now) (entry settled next ∷ [])) in
      let run_is : run c best rounds r ≡ record { roster = next; is_settled = true } =
      p.run_is ∙ ap (λ m. run c best m now) more ∙ run-settled c best m now same ∙ ap (λ (s : Rows). ended s true) (sym stays) in
      let count_is : count ≡ changes_in p.done = p.counted in
      let made_is : made ≡ rounds_in p.done = p.rounds_are in
      let sends = Sends-entries contents c old mid between 0 sent sent_more p.done (round_log c best k now) p.sends q.sends in
      let changes_are : count + n ≡ changes_in (log_of c best rounds r) =
      omega (arith, count_is, n_is, ap changes_in split, changes_in-append done (entry settled next ∷ []), changes_in-append p.done (round_log c best k now), changes_in-round c best k now) in
      let rounds_are : made + 1 ≡ rounds_in (log_of c best rounds r) =
      omega (arith, made_is, ap rounds_in split, rounds_in-append done (entry settled next ∷ []), rounds_in-append p.done (round_log c best k now), rounds_in-round c best k now) in
      record {
        roster_is = sym (ap (λ (e : Run). e.roster) run_is);
        writes = (ends next between new sent_more after done (entry settled next) total split refl sends s).writes;
        outcome_is = outcome_from true (made + 1) (count + n) total (sym (ap (λ (e : Run). e.is_settled) run_is)) rounds_are changes_are (total_is ∙ ap (penalty c) (sym (ap (λ (e : Run). e.roster) run_is)));
      }

  pub settled_breaks : (now next : Rows) (mid between new : Watched W) (sent sent_more count made n : ℕ) (fault : WriteFault) → Going contents c best rounds r now old mid sent count made → made < rounds
      → RoundMade contents c best (made + 1) now next mid between sent sent_more n → n ≡ 0 → BreaksIn contents between new sent_more (line_of c (entry settled next)) fault
      → LogStops contents c best rounds r next old new (LogFailed (sent_of fault))
  settled_breaks now next mid between new sent sent_more count made n fault p within q none s =
      let k = made + 1 in
      let m = rounds - k in
      let more : rounds - made ≡ suc m = omega arith in
      let n_is : n ≡ length (changes c best k (range_with_len 0 (nurse_count c)) now) = q.counted in
      let same = round_stays c best k now (sym n_is ∙ none) in
      let stays : next ≡ now = q.roster_is ∙ same_rows_is (round c best now) now same in
      let ahead : entries_from c best k (rounds - made) now ≡ (round_log c best k now ++ entry settled next ∷ []) ++ [] =
      ap (λ m. entries_from c best k m now) more ∙ entries-settled c best k m now same ∙ ap (λ s. round_log c best k now ++ entry settled s ∷ []) (sym stays) ∙ sym (append-nil (round_log c best k now ++ entry settled next ∷ [])) in
      breaks now next mid new sent count made (round_log c best k now ++ entry settled next ∷ []) [] fault p ahead
      (BreaksAmong-after contents c (round_log c best k now) (entry settled next ∷ []) next mid between new sent sent_more fault q.sends (BreaksAmong-one contents c (entry settled next) next between new sent_more fault refl s))
