-- What each step preserves holds all along a log, and at the run's end.
use Rattle.std.proofs.Common.{◌≡◌, ◌+◌, ◌⊎◌, ℕ, zero, suc, Bool, true, false, cond, inl, inr, arith, refl, List, [], ◌∷◌, Option, Some, None, nat_lt, Contains}
use Rattle.std.specs.List.{All, fold, range_with_len}
use Rattle.std.proofs.lemmas.Bool.{and_parts, cases_Bool}
use Rattle.std.proofs.lemmas.List.Elements.{All-append, All-cons, All-nil, Contains-append_right}
use Rattle.roster_rules.specs.HardRules.{keeps_hard}
use Rattle.roster_rules.specs.Improver.{BestRows, Entry, changed, changes, entries_from, entry, log_of, round, round_done, round_log, run, same_rows, settled, started, step, step_with, stopped}
use Rattle.roster_instance.specs.Meaning.{Meaning, nurse_count}
use Rattle.roster_rules.specs.Penalties.{penalty}
use Rattle.roster_instance.specs.Rosters.{Row, Rows, fits_case, is_row_of, with_row}
use Rattle.roster_rules.specs.AllowedRows.{allowed_rows, best_row, penalty_with, row_keeps}
use Rattle.roster_rules.proofs.FirstLeast.{found}
use Rattle.roster_rules.proofs.RowFits.{fits-with_row}
use Rattle.roster_laws.proofs.Allowed.{allowed_keeps}
use Rattle.roster_laws.proofs.Runs.{entries-goes_on, entries-settled, run-goes_on, run-settled, run-stopped}

module _ (c : Meaning) (best : BestRows) (P : Rows → Type 0) (steps : (r : Rows) (n : ℕ) → P r → P (step c best r n)) where
  abbrev AllAlong : List Entry → Type 0
  AllAlong es = All (λ e. P e.roster) es

  nurses_keep : (ns : List ℕ) (r : Rows) → P r → P (fold (step c best) r ns)
  nurses_keep [] r p = p
  nurses_keep (n ∷ ns) r p = nurses_keep ns (step c best r n) (steps r n p)

  round_keeps : (r : Rows) → P r → P (round c best r)
  unfolding round
  round_keeps r p = nurses_keep (range_with_len 0 (nurse_count c)) r p

  changes_keep : (k : ℕ) (ns : List ℕ) (r : Rows) → P r → AllAlong (changes c best k ns r)
  changes_keep k [] r p = All-nil (λ (e : Entry). P e.roster)
  changes_keep k (n ∷ ns) r p =
      let next = step c best r n in
      let kept : P next = steps r n p in
      let first : (b : Bool) → AllAlong (cond b [] (entry (changed k n) next ∷ [])) =
      elim [ true ↦ All-nil (λ (e : Entry). P e.roster) | false ↦ All-cons (λ (e : Entry). P e.roster) (entry (changed k n) next) [] kept (All-nil (λ (e : Entry). P e.roster)) ] in
      All-append (λ (e : Entry). P e.roster) (cond (same_rows next r) [] (entry (changed k n) next ∷ [])) (changes c best k ns next) (first (same_rows next r)) (changes_keep k ns next kept)

  round_log_keeps : (k : ℕ) (r : Rows) → P r → AllAlong (round_log c best k r)
  round_log_keeps k r p =
      All-append (λ (e : Entry). P e.roster) (changes c best k (range_with_len 0 (nurse_count c)) r) (entry (round_done k) (round c best r) ∷ []) (changes_keep k (range_with_len 0 (nurse_count c)) r p)
      (All-cons (λ (e : Entry). P e.roster) (entry (round_done k) (round c best r)) [] (round_keeps r p) (All-nil (λ (e : Entry). P e.roster)))

  entries_keep : (k m : ℕ) (r : Rows) → P r → AllAlong (entries_from c best k m r)
  entries_keep k zero r p = All-cons (λ (e : Entry). P e.roster) (entry stopped r) [] p (All-nil (λ (e : Entry). P e.roster))
  entries_keep k (suc m) r p =
      let go : (same_rows (round c best r) r ≡ true) ⊎ (same_rows (round c best r) r ≡ false) → AllAlong (entries_from c best k (suc m) r) =
      elim [
        | inl same ↦ rw (entries-settled c best k m r same) (All-append (λ (e : Entry). P e.roster) (round_log c best k r) (entry settled r ∷ []) (round_log_keeps k r p)
            (All-cons (λ (e : Entry). P e.roster) (entry settled r) [] p (All-nil (λ (e : Entry). P e.roster))))
        | inr differs ↦ rw (entries-goes_on c best k m r differs) (All-append (λ (e : Entry). P e.roster) (round_log c best k r) (entries_from c best (k + 1) m (round c best r)) (round_log_keeps k r p)
            (entries_keep (k + 1) m (round c best r) (round_keeps r p)))
      ] in
      go (cases_Bool (same_rows (round c best r) r))

  pub log_keeps : (rounds : ℕ) (r : Rows) → P r → AllAlong (log_of c best rounds r)
  unfolding log_of
  log_keeps rounds r p = All-cons (λ (e : Entry). P e.roster) (entry started r) (entries_from c best 1 rounds r) p (entries_keep 1 rounds r p)

  pub run_keeps : (m : ℕ) (r : Rows) → P r → P (run c best m r).roster
  run_keeps zero r p = rw (run-stopped c best r) p
  run_keeps (suc m) r p =
      let go : (same_rows (round c best r) r ≡ true) ⊎ (same_rows (round c best r) r ≡ false) → P (run c best (suc m) r).roster =
      elim [
        | inl same ↦ rw (run-settled c best m r same) p
        | inr differs ↦ rw (run-goes_on c best m r differs) (run_keeps m (round c best r) (round_keeps r p))
      ] in
      go (cases_Bool (same_rows (round c best r) r))

-- ---- the best row preserves that the roster fits, and the hard rules

abbrev pub IsKept : Meaning → Rows → Type 0
IsKept c r = (fits_case c r ≡ true) × (keeps_hard c r ≡ true)

module _ (c : Meaning) (from : ℕ) (r : Rows) (n : ℕ) where
  pub best_is_allowed : (row : Row) → best_row c from r n ≡ Some row → Contains (allowed_rows c from r n) row
  best_is_allowed row e =
      let f = found (penalty_with c r n) (allowed_rows c from r n) row e in
      rw f.split (Contains-append_right f.before (row ∷ f.after) row (0, omega arith, refl))

  pub step_keeps : IsKept c r → IsKept c (step c (best_row c from) r n)
  unfolding step
  step_keeps kept = go (best_row c from r n) refl
    where
      chosen : (row : Row) (b : Bool) → row_keeps c r n row ≡ true → IsKept c (cond b (with_row r n row) r)
      chosen row true e =
          let parts = and_parts (is_row_of c row) (keeps_hard c (with_row r n row)) e in
          (fits-with_row c r n row kept.0 parts.0, parts.1)
      chosen row false e = kept

      go : (o : Option Row) → best_row c from r n ≡ o → IsKept c (step_with c r n o)
      go None e = kept
      go (Some row) e = chosen row (nat_lt (penalty c (with_row r n row)) (penalty c r)) (allowed_keeps c from r n row (best_is_allowed row e)).0
