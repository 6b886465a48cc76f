-- The changes of a round: by how much they lower the penalty, and a round without any.
use Rattle.std.proofs.Common.{◌≡◌, ◌∙◌, ◌+◌, ◌*◌, ◌<◌, ◌≤◌, ℕ, zero, suc, Bool, true, false, cond, ap, arith, subst, sym, refl, List, [], ◌∷◌, ◌++◌, length, length-append}
use Rattle.std.specs.List.{fold, range_with_len}
use Rattle.std.proofs.Math.Nat.{mul-suc, mul-zero}
use Rattle.std.proofs.lemmas.Bool.{true≢false}
use Rattle.std.proofs.lemmas.List.Sums.{sum_by-append}
use Rattle.roster_rules.specs.Improver.{BestRows, Entry, changed, changes, entry, round, round_done, round_log, same_rows, step}
use Rattle.roster_instance.specs.Meaning.{Meaning, nurse_count}
use Rattle.roster_rules.specs.Penalties.{penalty, penalty_unit}
use Rattle.roster_instance.specs.Rosters.{Rows}
use Rattle.roster_laws.specs.Logs.{changes_in, is_change, is_round, rounds_in}
use Rattle.roster_laws.proofs.Fives.{unit_is, within_times}
use Rattle.roster_laws.proofs.SameRows.{same_rows_is, same_rows_self}
use Rattle.roster_laws.proofs.Steps.{falls_by_unit}

some_is_none : (n : ℕ) → suc n ≡ 0 → ⊥
some_is_none n e = omega (arith, e)

below_none : (i : ℕ) → i < 0 → ⊥
below_none i h = omega (arith, h)

-- ---- what is counted

pub changes_in-append : (xs ys : List Entry) → changes_in (xs ++ ys) ≡ changes_in xs + changes_in ys
changes_in-append xs ys = sum_by-append (λ e. cond (is_change e.event) 1 0) xs ys

pub rounds_in-append : (xs ys : List Entry) → rounds_in (xs ++ ys) ≡ rounds_in xs + rounds_in ys
rounds_in-append xs ys = sum_by-append (λ e. cond (is_round e.event) 1 0) xs ys

module _ (c : Meaning) (best : BestRows) (k : ℕ) where
  changes_in-changes : (ns : List ℕ) (r : Rows) → changes_in (changes c best k ns r) ≡ length (changes c best k ns r)
  changes_in-changes [] r = refl
  changes_in-changes (n ∷ ns) r =
      let next = step c best r n in
      let first = cond (same_rows next r) [] (entry (changed k n) next ∷ []) in
      let rest = changes c best k ns next in
      let one : changes_in first ≡ length first = elim (same_rows next r) as (λ b. changes_in (cond b [] (entry (changed k n) next ∷ [])) ≡ length (cond b [] (entry (changed k n) next ∷ []))) [ true ↦ refl | false ↦ refl ] in
      omega (arith, one, changes_in-changes ns next, changes_in-append first rest, length-append first rest)

  rounds_in-changes : (ns : List ℕ) (r : Rows) → rounds_in (changes c best k ns r) ≡ 0
  rounds_in-changes [] r = refl
  rounds_in-changes (n ∷ ns) r =
      let next = step c best r n in
      let first = cond (same_rows next r) [] (entry (changed k n) next ∷ []) in
      let rest = changes c best k ns next in
      let one : rounds_in first ≡ 0 = elim (same_rows next r) as (λ b. rounds_in (cond b [] (entry (changed k n) next ∷ [])) ≡ 0) [ true ↦ refl | false ↦ refl ] in
      omega (arith, one, rounds_in-changes ns next, rounds_in-append first rest)

  -- the number of changes in a round
  abbrev pub change_count : Rows → ℕ
  change_count r = length (changes c best k (range_with_len 0 (nurse_count c)) r)

  pub changes_in-round : (r : Rows) → changes_in (round_log c best k r) ≡ change_count r
  changes_in-round r =
      let all = range_with_len 0 (nurse_count c) in
      omega (arith, changes_in-append (changes c best k all r) (entry (round_done k) (round c best r) ∷ []), changes_in-changes all r)

  pub rounds_in-round : (r : Rows) → rounds_in (round_log c best k r) ≡ 1
  rounds_in-round r =
      let all = range_with_len 0 (nurse_count c) in
      omega (arith, rounds_in-append (changes c best k all r) (entry (round_done k) (round c best r) ∷ []), rounds_in-changes all r)

  -- ---- the changes of some nurses

  changes_fall : (ns : List ℕ) (r : Rows) → penalty c (fold (step c best) r ns) + penalty_unit c * length (changes c best k ns r) ≤ penalty c r
  changes_fall [] r = omega (arith, mul-zero (penalty_unit c))
  changes_fall (n ∷ ns) r =
      let next = step c best r n in
      let rest = changes c best k ns next in
      let later : penalty c (fold (step c best) next ns) + penalty_unit c * length rest ≤ penalty c next = changes_fall ns next in
      let longer : length (entry (changed k n) next ∷ rest) ≡ suc (length rest) = omega arith in
      let one_more : penalty_unit c * length (entry (changed k n) next ∷ rest) ≡ penalty_unit c * length rest + penalty_unit c = ap (λ m. penalty_unit c * m) longer ∙ mul-suc (penalty_unit c) (length rest) in
      let go : (b : Bool) → same_rows next r ≡ b → penalty c (fold (step c best) next ns) + penalty_unit c * length (cond b [] (entry (changed k n) next ∷ []) ++ rest) ≤ penalty c r =
      elim [
        | true ↦ (λ e. omega (arith, later, ap (penalty c) (same_rows_is next r e)))
        | false ↦ (λ e. omega (arith, later, one_more, falls_by_unit c best r n e))
      ] in
      go (same_rows next r) refl

  -- if no step changed the roster, it is the same, and each step leaves it as it is
  none_changes : (ns : List ℕ) (r : Rows) → length (changes c best k ns r) ≡ 0 → fold (step c best) r ns ≡ r
  none_changes [] r none = refl
  none_changes (n ∷ ns) r none =
      let next = step c best r n in
      let go : (b : Bool) → same_rows next r ≡ b → length (cond b [] (entry (changed k n) next ∷ []) ++ changes c best k ns next) ≡ 0 → fold (step c best) next ns ≡ r =
      elim [
        | true ↦ (λ e h. none_changes ns next h ∙ same_rows_is next r e)
        | false ↦ (λ e h. elim (some_is_none (length (changes c best k ns next)) h) [ ])
      ] in
      go (same_rows next r) refl none

  at_step : (a m : ℕ) (r : Rows) (i : ℕ) → i < suc m → step c best r a ≡ r → ((j : ℕ) → j < m → step c best r ((a + 1) + j) ≡ r) → step c best r (a + i) ≡ r
  at_step a m r zero within here later =
      let e : a + zero ≡ a = omega arith in
      ap (step c best r) e ∙ here
  at_step a m r (suc j) within here later =
      let e : a + suc j ≡ (a + 1) + j = omega arith in
      ap (step c best r) e ∙ later j (omega (arith, within))

  pub none_steps : (a m : ℕ) (r : Rows) → length (changes c best k (range_with_len a m) r) ≡ 0 → (i : ℕ) → i < m → step c best r (a + i) ≡ r
  none_steps a zero r none i within = elim (below_none i within) [ ]
  none_steps a (suc m) r none i within =
      let next = step c best r a in
      let go : (b : Bool) → same_rows next r ≡ b → length (cond b [] (entry (changed k a) next ∷ []) ++ changes c best k (range_with_len (a + 1) m) next) ≡ 0 → step c best r (a + i) ≡ r =
      elim [
        | true ↦ (λ e h. at_step a m r i within (same_rows_is next r e) (none_steps (a + 1) m r (subst (λ s. length (changes c best k (range_with_len (a + 1) m) s) ≡ 0) (same_rows_is next r e) h)))
        | false ↦ (λ e h. elim (some_is_none (length (changes c best k (range_with_len (a + 1) m) next)) h) [ ])
      ] in
      go (same_rows next r) refl none

  -- ---- a round

  pub round_falls : (r : Rows) → penalty c (round c best r) + penalty_unit c * change_count r ≤ penalty c r
  unfolding round
  round_falls r = changes_fall (range_with_len 0 (nurse_count c)) r

  pub round_stays : (r : Rows) → change_count r ≡ 0 → same_rows (round c best r) r ≡ true
  unfolding round
  round_stays r none = ap (λ s. same_rows s r) (none_changes (range_with_len 0 (nurse_count c)) r none) ∙ same_rows_self r

  pub stays_none : (r : Rows) → same_rows (round c best r) r ≡ true → change_count r ≡ 0
  stays_none r same = omega (arith, round_falls r, within_times (penalty_unit c) (change_count r) (unit_is c), ap (penalty c) (same_rows_is (round c best r) r same))

  pub moves_some : (r : Rows) → same_rows (round c best r) r ≡ false → 0 < change_count r
  moves_some r differs =
      let go : (n : ℕ) → change_count r ≡ n → 0 < n = elim [ zero ↦ (λ none. absurd (true≢false (sym (round_stays r none) ∙ differs))) | suc n ↦ (λ e. omega arith) ] in
      go (change_count r) refl
