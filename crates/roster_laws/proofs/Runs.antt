-- Laws of runs, by induction on the rounds that are left.
use Rattle.std.proofs.Common.{◌≡◌, ◌∙◌, ◌+◌, ◌*◌, ◌<◌, ◌≤◌, ◌⊎◌, ℕ, zero, suc, true, false, inl, inr, ap, arith, sym, refl, List, [], ◌∷◌, ◌++◌, append_assoc, zero-add}
use Rattle.std.specs.List.{All}
use Rattle.std.proofs.Math.Nat.{mul-add, mul-le-mul_left, mul-zero}
use Rattle.std.proofs.lemmas.Bool.{cases_Bool, true≢false}
use Rattle.roster_rules.specs.Improver.{BestRows, Entry, Run, entries_from, entry, log_of, round, round_log, run, same_rows, settled, started, step}
use Rattle.roster_instance.specs.Meaning.{Meaning, nurse_count}
use Rattle.roster_rules.specs.Penalties.{penalty, penalty_unit}
use Rattle.roster_instance.specs.Rosters.{Rows}
use Rattle.roster_rules.specs.AllowedRows.{allowed_rows, best_row, penalty_with}
use Rattle.roster_laws.specs.Logs.{EndsWith, changes_in, ending, rounds_in}
use Rattle.roster_laws.proofs.Rounds.{changes_in-append, changes_in-round, moves_some, none_steps, round_falls, rounds_in-append, rounds_in-round, stays_none}
use Rattle.roster_laws.proofs.SameRows.{same_rows_is}
use Rattle.roster_laws.proofs.Steps.{step_is_least}

too_many : (p a b q : ℕ) → p < a → a ≤ b → q + b ≤ p → ⊥
too_many p a b q x y z = omega (arith, x, y, z)

more_before : (front entries : List Entry) (last : Entry) → EndsWith entries last → EndsWith (front ++ entries) last
more_before front entries last p = record { before = front ++ p.before; split = ap (λ l. front ++ l) p.split ∙ sym (append_assoc front p.before (last ∷ [])) }

module _ (c : Meaning) (best : BestRows) where
  -- ---- a run and its entries, a round at a time

  pub run-settled : (m : ℕ) (r : Rows) → same_rows (round c best r) r ≡ true → run c best (suc m) r ≡ record { roster = r; is_settled = true }
  unfolding run
  run-settled m r same = rw same refl

  pub run-goes_on : (m : ℕ) (r : Rows) → same_rows (round c best r) r ≡ false → run c best (suc m) r ≡ run c best m (round c best r)
  unfolding run
  run-goes_on m r differs = rw differs refl

  pub run-stopped : (r : Rows) → run c best 0 r ≡ record { roster = r; is_settled = false }
  unfolding run
  run-stopped r = refl

  pub entries-settled : (k m : ℕ) (r : Rows) → same_rows (round c best r) r ≡ true → entries_from c best k (suc m) r ≡ round_log c best k r ++ entry settled r ∷ []
  entries-settled k m r e = rw e refl

  pub entries-goes_on : (k m : ℕ) (r : Rows) → same_rows (round c best r) r ≡ false → entries_from c best k (suc m) r ≡ round_log c best k r ++ entries_from c best (k + 1) m (round c best r)
  entries-goes_on k m r e = rw e refl

  end-settled : (m : ℕ) (r : Rows) → same_rows (round c best r) r ≡ true → (run c best (suc m) r).is_settled ≡ true
  end-settled m r same = ap (λ (e : Run). e.is_settled) (run-settled m r same)

  end-goes_on : (m : ℕ) (r : Rows) → same_rows (round c best r) r ≡ false → (run c best (suc m) r).is_settled ≡ (run c best m (round c best r)).is_settled
  end-goes_on m r differs = ap (λ (e : Run). e.is_settled) (run-goes_on m r differs)

  end-stopped : (r : Rows) → (run c best 0 r).is_settled ≡ false
  end-stopped r = ap (λ (e : Run). e.is_settled) (run-stopped r)

  -- ---- the log ends as the run does

  abbrev Ends : List Entry → Run → Type 0
  Ends entries r = EndsWith entries (entry (ending r) r.roster)

  ends_with : (k m : ℕ) (r : Rows) → Ends (entries_from c best k m r) (run c best m r)
  ends_with k zero r = rw (run-stopped r) (record { before = []; split = refl })
  ends_with k (suc m) r =
      let go : (same_rows (round c best r) r ≡ true) ⊎ (same_rows (round c best r) r ≡ false) → Ends (entries_from c best k (suc m) r) (run c best (suc m) r) =
      elim [
        | inl same ↦ rw (run-settled m r same, entries-settled k m r same) (record { before = round_log c best k r; split = refl })
        | inr differs ↦ rw (run-goes_on m r differs, entries-goes_on k m r differs) (more_before (round_log c best k r) _ _ (ends_with (k + 1) m (round c best r)))
      ] in
      go (cases_Bool (same_rows (round c best r) r))

  pub last : (rounds : ℕ) (r : Rows) → Ends (log_of c best rounds r) (run c best rounds r)
  unfolding log_of
  last rounds r = more_before (entry started r ∷ []) (entries_from c best 1 rounds r) _ (ends_with 1 rounds r)

  -- ---- the number of rounds

  rounds_in-settled : (k m : ℕ) (r : Rows) → same_rows (round c best r) r ≡ true → rounds_in (entries_from c best k (suc m) r) ≡ 1
  rounds_in-settled k m r same = omega (arith, ap rounds_in (entries-settled k m r same), rounds_in-append (round_log c best k r) (entry settled r ∷ []), rounds_in-round c best k r)

  rounds_in-goes_on : (k m : ℕ) (r : Rows) → same_rows (round c best r) r ≡ false → rounds_in (entries_from c best k (suc m) r) ≡ 1 + rounds_in (entries_from c best (k + 1) m (round c best r))
  rounds_in-goes_on k m r differs =
      omega (arith, ap rounds_in (entries-goes_on k m r differs), rounds_in-append (round_log c best k r) (entries_from c best (k + 1) m (round c best r)), rounds_in-round c best k r)

  rounds_few : (k m : ℕ) (r : Rows) → rounds_in (entries_from c best k m r) ≤ m
  rounds_few k zero r = omega arith
  rounds_few k (suc m) r =
      let go : (same_rows (round c best r) r ≡ true) ⊎ (same_rows (round c best r) r ≡ false) → rounds_in (entries_from c best k (suc m) r) ≤ suc m =
      elim [
        | inl same ↦ omega (arith, rounds_in-settled k m r same)
        | inr differs ↦ omega (arith, rounds_in-goes_on k m r differs, rounds_few (k + 1) m (round c best r))
      ] in
      go (cases_Bool (same_rows (round c best r) r))

  rounds_all : (k m : ℕ) (r : Rows) → (run c best m r).is_settled ≡ false → rounds_in (entries_from c best k m r) ≡ m
  rounds_all k zero r open_end = refl
  rounds_all k (suc m) r open_end =
      let go : (same_rows (round c best r) r ≡ true) ⊎ (same_rows (round c best r) r ≡ false) → rounds_in (entries_from c best k (suc m) r) ≡ suc m =
      elim [
        | inl same ↦ absurd (true≢false (sym (end-settled m r same) ∙ open_end))
        | inr differs ↦ omega (arith, rounds_in-goes_on k m r differs, rounds_all (k + 1) m (round c best r) (sym (end-goes_on m r differs) ∙ open_end))
      ] in
      go (cases_Bool (same_rows (round c best r) r))

  rounds_in-log : (rounds : ℕ) (r : Rows) → rounds_in (log_of c best rounds r) ≡ rounds_in (entries_from c best 1 rounds r)
  unfolding log_of
  rounds_in-log rounds r = omega (arith, rounds_in-append (entry started r ∷ []) (entries_from c best 1 rounds r))

  pub few : (rounds : ℕ) (r : Rows) → rounds_in (log_of c best rounds r) ≤ rounds
  few rounds r = omega (arith, rounds_in-log rounds r, rounds_few 1 rounds r)

  pub all : (rounds : ℕ) (r : Rows) → (run c best rounds r).is_settled ≡ false → rounds_in (log_of c best rounds r) ≡ rounds
  all rounds r open_end = rounds_in-log rounds r ∙ rounds_all 1 rounds r open_end

  -- ---- if a run is settled, no round and no step changes anything

  settled_where : (m : ℕ) (r : Rows) → (run c best m r).is_settled ≡ true → same_rows (round c best (run c best m r).roster) (run c best m r).roster ≡ true
  settled_where zero r end = absurd (true≢false (sym end ∙ end-stopped r))
  settled_where (suc m) r end =
      let go : (same_rows (round c best r) r ≡ true) ⊎ (same_rows (round c best r) r ≡ false) → same_rows (round c best (run c best (suc m) r).roster) (run c best (suc m) r).roster ≡ true =
      elim [
        | inl same ↦ rw (run-settled m r same) same
        | inr differs ↦ rw (run-goes_on m r differs) (settled_where m (round c best r) (sym (end-goes_on m r differs) ∙ end))
      ] in
      go (cases_Bool (same_rows (round c best r) r))

  pub settled_round : (m : ℕ) (r : Rows) → (run c best m r).is_settled ≡ true → round c best (run c best m r).roster ≡ (run c best m r).roster
  settled_round m r end = same_rows_is (round c best (run c best m r).roster) (run c best m r).roster (settled_where m r end)

  pub settled_steps : (m : ℕ) (r : Rows) → (run c best m r).is_settled ≡ true → (n : ℕ) → n < nurse_count c → step c best (run c best m r).roster n ≡ (run c best m r).roster
  settled_steps m r end n within =
      let last = (run c best m r).roster in
      ap (step c best last) (sym (zero-add n)) ∙ none_steps c best 0 0 (nurse_count c) last (stays_none c best 0 last (settled_where m r end)) n within

  -- ---- if it is stopped, its last round changed something

  pub stopped_round : (m : ℕ) (r : Rows) → (run c best (suc m) r).is_settled ≡ false
      → ((run c best (suc m) r).roster ≡ round c best (run c best m r).roster) × (same_rows (run c best (suc m) r).roster (run c best m r).roster ≡ false)
  stopped_round zero r open_end =
      let go : (same_rows (round c best r) r ≡ true) ⊎ (same_rows (round c best r) r ≡ false) → ((run c best 1 r).roster ≡ round c best (run c best 0 r).roster) × (same_rows (run c best 1 r).roster (run c best 0 r).roster ≡ false) =
      elim [
        | inl same ↦ absurd (true≢false (sym (end-settled 0 r same) ∙ open_end))
        | inr differs ↦ rw (run-goes_on 0 r differs, run-stopped (round c best r), run-stopped r) (refl, differs)
      ] in
      go (cases_Bool (same_rows (round c best r) r))
  stopped_round (suc m) r open_end =
      let go : (same_rows (round c best r) r ≡ true) ⊎ (same_rows (round c best r) r ≡ false)
      → ((run c best (suc (suc m)) r).roster ≡ round c best (run c best (suc m) r).roster) × (same_rows (run c best (suc (suc m)) r).roster (run c best (suc m) r).roster ≡ false) =
      elim [
        | inl same ↦ absurd (true≢false (sym (end-settled (suc m) r same) ∙ open_end))
        | inr differs ↦ rw (run-goes_on (suc m) r differs, run-goes_on m r differs) (stopped_round m (round c best r) (sym (end-goes_on (suc m) r differs) ∙ open_end))
      ] in
      go (cases_Bool (same_rows (round c best r) r))

  -- ---- how far the penalty falls

  changes_in-settled : (k m : ℕ) (r : Rows) → same_rows (round c best r) r ≡ true → changes_in (entries_from c best k (suc m) r) ≡ 0
  changes_in-settled k m r same =
      omega (arith, ap changes_in (entries-settled k m r same), changes_in-append (round_log c best k r) (entry settled r ∷ []), changes_in-round c best k r, stays_none c best k r same)

  changes_in-goes_on : (k m : ℕ) (r : Rows) → same_rows (round c best r) r ≡ false
      → changes_in (entries_from c best k (suc m) r) ≡ changes_in (round_log c best k r) + changes_in (entries_from c best (k + 1) m (round c best r))
  changes_in-goes_on k m r differs = ap changes_in (entries-goes_on k m r differs) ∙ changes_in-append (round_log c best k r) (entries_from c best (k + 1) m (round c best r))

  run_falls : (k m : ℕ) (r : Rows) → penalty c (run c best m r).roster + penalty_unit c * changes_in (entries_from c best k m r) ≤ penalty c r
  run_falls k zero r = rw (run-stopped r) (omega (arith, mul-zero (penalty_unit c)))
  run_falls k (suc m) r =
      let go : (same_rows (round c best r) r ≡ true) ⊎ (same_rows (round c best r) r ≡ false) → penalty c (run c best (suc m) r).roster + penalty_unit c * changes_in (entries_from c best k (suc m) r) ≤ penalty c r =
      elim [
        | inl same ↦ rw (run-settled m r same, changes_in-settled k m r same) (omega (arith, mul-zero (penalty_unit c)))
        | inr differs ↦ rw (run-goes_on m r differs, changes_in-goes_on k m r differs) (omega (arith, mul-add (penalty_unit c) (changes_in (round_log c best k r)) (changes_in (entries_from c best (k + 1) m (round c best r))), ap (λ n. penalty_unit c * n) (changes_in-round c best k r), round_falls c best k r, run_falls (k + 1) m (round c best r)))
      ] in
      go (cases_Bool (same_rows (round c best r) r))

  started_alone : (r : Rows) → changes_in (entry started r ∷ []) ≡ 0
  started_alone r = refl

  pub fall : (rounds : ℕ) (r : Rows) → penalty c (run c best rounds r).roster + penalty_unit c * changes_in (log_of c best rounds r) ≤ penalty c r
  unfolding log_of
  fall rounds r = rw (changes_in-append (entry started r ∷ []) (entries_from c best 1 rounds r)) (omega (arith, run_falls 1 rounds r, ap (λ n. penalty_unit c * n) (started_alone r)))

  -- each round of a run that isn't settled changes something
  changes_some : (k m : ℕ) (r : Rows) → (run c best m r).is_settled ≡ false → m ≤ changes_in (entries_from c best k m r)
  changes_some k zero r open_end = omega arith
  changes_some k (suc m) r open_end =
      let go : (same_rows (round c best r) r ≡ true) ⊎ (same_rows (round c best r) r ≡ false) → suc m ≤ changes_in (entries_from c best k (suc m) r) =
      elim [
        | inl same ↦ absurd (true≢false (sym (end-settled m r same) ∙ open_end))
        | inr differs ↦ (let later = changes_some (k + 1) m (round c best r) (sym (end-goes_on m r differs) ∙ open_end) in
            omega (arith, changes_in-goes_on k m r differs, changes_in-round c best k r, moves_some c best k r differs, later))
      ] in
      go (cases_Bool (same_rows (round c best r) r))

  pub settles : (rounds : ℕ) (r : Rows) → penalty c r < penalty_unit c * rounds → (run c best rounds r).is_settled ≡ true
  settles rounds r long =
      let go : ((run c best rounds r).is_settled ≡ true) ⊎ ((run c best rounds r).is_settled ≡ false) → (run c best rounds r).is_settled ≡ true =
      elim [
        | inl end ↦ end
        | inr open_end ↦ absurd (too_many (penalty c r) (penalty_unit c * rounds) (penalty_unit c * changes_in (entries_from c best 1 rounds r)) (penalty c (run c best rounds r).roster) long
            (mul-le-mul_left (penalty_unit c) (changes_some 1 rounds r open_end)) (run_falls 1 rounds r))
      ] in
      go (cases_Bool (run c best rounds r).is_settled)

-- if a run of the best rows is settled, no allowed row is cheaper
pub settled_rows : (c : Meaning) (from m : ℕ) (r : Rows) → (run c (best_row c from) m r).is_settled ≡ true → (n : ℕ) → n < nurse_count c
    → All (λ row. penalty c (run c (best_row c from) m r).roster ≤ penalty_with c (run c (best_row c from) m r).roster n row) (allowed_rows c from (run c (best_row c from) m r).roster n)
settled_rows c from m r end n within =
    let last = (run c (best_row c from) m r).roster in
    rw (settled_steps c (best_row c from) m r end n within) at (step_is_least c from last n)
