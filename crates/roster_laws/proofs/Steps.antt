-- A step changes nothing, or makes the roster cheaper.
use Rattle.std.proofs.Common.{◌≡◌, ◌∙◌, ◌+◌, ◌<◌, ◌≤◌, ◌⊎◌, ℕ, Bool, true, false, not, cond, inl, inr, ap, arith, sym, refl, ◌∷◌, Option, Some, None, nat_lt}
use Rattle.std.specs.List.{All}
use Rattle.std.proofs.lemmas.Bool.{false_from_ne_true, le-ltb, lt-ltb, ltb-false, ltb-true, true≢false}
use Rattle.std.proofs.lemmas.List.Elements.{All-append, All-cons, All-nil}
use Rattle.roster_rules.specs.Improver.{BestRows, if_cheaper, same_rows, step, step_with}
use Rattle.roster_instance.specs.Meaning.{Meaning}
use Rattle.roster_rules.specs.Penalties.{penalty, penalty_unit}
use Rattle.roster_instance.specs.Rosters.{Row, Rows, with_row}
use Rattle.roster_rules.specs.AllowedRows.{IsBestRow, allowed_rows, best_row, penalty_with}
use Rattle.roster_rules.proofs.FirstLeast.{found, none_of_nothing, only}
use Rattle.roster_laws.proofs.Fives.{by_unit, penalty_is, unit_is}
use Rattle.roster_laws.proofs.SameRows.{same_rows_is, same_rows_self}

no_less : (p q : ℕ) → p < q → p ≡ q → ⊥
no_less p q h e = omega (arith, h, e)

if_cheaper_falls : (c : Meaning) (r new : Rows) → (if_cheaper c r new ≡ r) ⊎ (penalty c (if_cheaper c r new) < penalty c r)
if_cheaper_falls c r new =
    let go : (b : Bool) → nat_lt (penalty c new) (penalty c r) ≡ b → (cond b new r ≡ r) ⊎ (penalty c (cond b new r) < penalty c r) =
    elim [ true ↦ (λ e. inr (ltb-true (penalty c new) (penalty c r) e)) | false ↦ (λ e. inl refl) ] in
    go (nat_lt (penalty c new) (penalty c r)) refl

module _ (c : Meaning) (best : BestRows) (r : Rows) (n : ℕ) where
  pub step_falls : (step c best r n ≡ r) ⊎ (penalty c (step c best r n) < penalty c r)
  unfolding step
  step_falls =
      let go : (o : Option Row) → (step_with c r n o ≡ r) ⊎ (penalty c (step_with c r n o) < penalty c r) =
      elim [ None ↦ inl refl | Some row ↦ if_cheaper_falls c r (with_row r n row) ] in
      go (best r n)

  cheaper_differs : penalty c (step c best r n) < penalty c r → same_rows (step c best r n) r ≡ false
  cheaper_differs less =
      false_from_ne_true (same_rows (step c best r n) r) (λ e. no_less (penalty c (step c best r n)) (penalty c r) less (ap (penalty c) (same_rows_is (step c best r n) r e)))

  -- a step changes the roster exactly if it makes it cheaper
  pub changed_is_cheaper : not (same_rows (step c best r n) r) ≡ nat_lt (penalty c (step c best r n)) (penalty c r)
  changed_is_cheaper =
      let go : (step c best r n ≡ r) ⊎ (penalty c (step c best r n) < penalty c r) → not (same_rows (step c best r n) r) ≡ nat_lt (penalty c (step c best r n)) (penalty c r) =
      elim [
        | inl same ↦ rw same (ap not (same_rows_self r) ∙ sym (le-ltb (penalty c r) (penalty c r) (omega arith)))
        | inr less ↦ ap not (cheaper_differs less) ∙ sym (lt-ltb (penalty c (step c best r n)) (penalty c r) less)
      ] in
      go step_falls

  -- and then by at least the unit
  pub falls_by_unit : same_rows (step c best r n) r ≡ false → penalty c (step c best r n) + penalty_unit c ≤ penalty c r
  falls_by_unit differs =
      let go : (step c best r n ≡ r) ⊎ (penalty c (step c best r n) < penalty c r) → penalty c (step c best r n) + penalty_unit c ≤ penalty c r =
      elim [
        | inl same ↦ elim (true≢false (sym (same_rows_self r) ∙ ap (λ s. same_rows s r) (sym same) ∙ differs)) [ ]
        | inr less ↦ by_unit (penalty_unit c) (penalty c (step c best r n)) (penalty c r) (unit_is c) (penalty_is c (step c best r n)) (penalty_is c r) less
      ] in
      go step_falls

-- ---- with the best row

module _ (c : Meaning) (from : ℕ) (r : Rows) (n : ℕ) where
  -- the penalty after a step is at most that with any allowed row
  pub step_is_least : All (λ row. penalty c (step c (best_row c from) r n) ≤ penalty_with c r n row) (allowed_rows c from r n)
  unfolding step
  step_is_least = go (best_row c from r n) refl
    where
      reached : (row : Row) (b : Bool) → nat_lt (penalty c (with_row r n row)) (penalty c r) ≡ b → penalty c (cond b (with_row r n row) r) ≤ penalty_with c r n row
      reached row true e = omega arith
      reached row false e = ltb-false _ _ e

      go : (o : Option Row) → best_row c from r n ≡ o → All (λ row. penalty c (step_with c r n o) ≤ penalty_with c r n row) (allowed_rows c from r n)
      go None e = rw (none_of_nothing (penalty_with c r n) (allowed_rows c from r n) e) (All-nil (λ row. penalty c r ≤ penalty_with c r n row))
      go (Some row) e =
          let f = found (penalty_with c r n) (allowed_rows c from r n) row e in
          let P : Row → Type 0 = λ other. penalty c (step_with c r n (Some row)) ≤ penalty_with c r n other in
          let own = reached row (nat_lt (penalty c (with_row r n row)) (penalty c r)) refl in
          rw f.split (All-append P f.before (row ∷ f.after) (λ k d h. omega (arith, own, f.dearer k d h)) (All-cons P row f.after own (λ k d h. omega (arith, own, f.least k d h))))

  module _ (row : Row) (is_best : IsBestRow c from r n row) where
    stepped : (b : Bool) → nat_lt (penalty_with c r n row) (penalty c r) ≡ b → step c (best_row c from) r n ≡ cond b (with_row r n row) r
    unfolding step
    stepped b e = ap (step_with c r n) (only (penalty_with c r n) (allowed_rows c from r n) row is_best) ∙ ap (λ x. cond x (with_row r n row) r) e

    pub put_in : penalty_with c r n row < penalty c r → step c (best_row c from) r n ≡ with_row r n row
    put_in less = stepped true (lt-ltb (penalty_with c r n row) (penalty c r) less)

    pub left_out : penalty c r ≤ penalty_with c r n row → step c (best_row c from) r n ≡ r
    left_out more = stepped false (le-ltb (penalty_with c r n row) (penalty c r) more)
