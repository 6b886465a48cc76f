-- The entries of a run's log, one after another: each change puts the best row in.
use Rattle.std.proofs.Common.{◌≡◌, ◌∙◌, ◌+◌, ◌<◌, ◌≤◌, ◌⊎◌, ℕ, zero, suc, Bool, true, false, cond, inl, inr, arith, sym, subst, refl, List, [], ◌∷◌, ◌++◌, Option, Some, None, append_assoc, nat_lt}
use Rattle.std.specs.List.{fold, range_with_len}
use Rattle.std.proofs.lemmas.Bool.{cases_Bool, ltb-true, true≢false}
use Rattle.roster_instance.specs.Meaning.{Meaning, nurse_count}
use Rattle.roster_instance.specs.Rosters.{Row, Rows, with_row}
use Rattle.roster_rules.specs.AllowedRows.{allowed_rows, best_row, penalty_with}
use Rattle.roster_rules.specs.Improver.{Entry, changed, changes, entries_from, entry, log_of, round, round_done, round_log, same_rows, settled, step, step_with}
use Rattle.roster_rules.specs.Penalties.{penalty}
use Rattle.roster_rules.proofs.FirstLeast.{found}
use Rattle.roster_laws.proofs.Runs.{entries-goes_on, entries-settled}
use Rattle.roster_laws.proofs.SameRows.{same_rows_is, same_rows_self}
use Rattle.roster_rounds.specs.PutIn.{AllDo, PutsBestRowIn}

module _ (c : Meaning) (from : ℕ) where
  -- a step that changes the roster puts the best row in
  puts_in : (r : Rows) (n : ℕ) → n < nurse_count c → same_rows (step c (best_row c from) r n) r ≡ false → PutsBestRowIn c from r n (step c (best_row c from) r n)
  unfolding step
  puts_in r n inside = go (best_row c from r n) refl
    where
      unchanged : same_rows r r ≡ false → ⊥
      unchanged differs = true≢false (sym (same_rows_self r) ∙ differs)

      chosen : (row : Row) (b : Bool) → best_row c from r n ≡ Some row → nat_lt (penalty c (with_row r n row)) (penalty c r) ≡ b → same_rows (cond b (with_row r n row) r) r ≡ false → PutsBestRowIn c from r n (cond b (with_row r n row) r)
      chosen row false e less differs = absurd (unchanged differs)
      chosen row true e less differs = record {
        nurse = inside;
        row = row;
        best = found (penalty_with c r n) (allowed_rows c from r n) row e;
        next_is = refl;
        cheaper = ltb-true (penalty c (with_row r n row)) (penalty c r) less;
      }

      go : (o : Option Row) → best_row c from r n ≡ o → same_rows (step_with c r n o) r ≡ false → PutsBestRowIn c from r n (step_with c r n o)
      go None e differs = absurd (unchanged differs)
      go (Some row) e differs = chosen row (nat_lt (penalty c (with_row r n row)) (penalty c r)) e refl differs

  -- the changes of the nurses from a on, and what comes after them
  changes_do : (k a m : ℕ) (r : Rows) (later : List Entry) → a + m ≤ nurse_count c
      → AllDo c from (fold (step c (best_row c from)) r (range_with_len a m)) later → AllDo c from r (changes c (best_row c from) k (range_with_len a m) r ++ later)
  changes_do k a zero r later inside does = does
  changes_do k a (suc m) r later inside does =
      let best = best_row c from in
      let next = step c best r a in
      let rest : AllDo c from next (changes c best k (range_with_len (a + 1) m) next ++ later) = changes_do k (a + 1) m next later (omega (arith, inside)) does in
      let go : (b : Bool) → same_rows next r ≡ b → AllDo c from r ((cond b [] (entry (changed k a) next ∷ []) ++ changes c best k (range_with_len (a + 1) m) next) ++ later) =
      elim [
        | true ↦ (λ e. subst (λ s. AllDo c from s (changes c best k (range_with_len (a + 1) m) next ++ later)) (same_rows_is next r e) rest)
        | false ↦ (λ e. (puts_in r a (omega (arith, inside)) e, rest))
      ] in
      go (same_rows next r) refl

  round_does : (k : ℕ) (r : Rows) (later : List Entry) → AllDo c from (round c (best_row c from) r) later → AllDo c from r (round_log c (best_row c from) k r ++ later)
  unfolding round
  round_does k r later does =
      let best = best_row c from in
      let next = fold (step c best) r (range_with_len 0 (nurse_count c)) in
      let all = changes c best k (range_with_len 0 (nurse_count c)) r in
      rw (append_assoc all (entry (round_done k) next ∷ []) later) (changes_do k 0 (nurse_count c) r (entry (round_done k) next ∷ later) (omega arith) (refl, does))

  entries_do : (k m : ℕ) (r : Rows) → AllDo c from r (entries_from c (best_row c from) k m r)
  entries_do k zero r = (refl, tt)
  entries_do k (suc m) r =
      let best = best_row c from in
      let next = round c best r in
      let go : (same_rows next r ≡ true) ⊎ (same_rows next r ≡ false) → AllDo c from r (entries_from c best k (suc m) r) =
      elim [
        | inl same ↦ rw (entries-settled c best k m r same) (round_does k r (entry settled r ∷ []) (sym (same_rows_is next r same), tt))
        | inr differs ↦ rw (entries-goes_on c best k m r differs) (round_does k r (entries_from c best (k + 1) m next) (entries_do (k + 1) m next))
      ] in
      go (cases_Bool (same_rows next r))

  pub log_does : (rounds : ℕ) (r : Rows) → AllDo c from r (log_of c (best_row c from) rounds r)
  unfolding log_of
  log_does rounds r = (refl, entries_do 1 rounds r)
