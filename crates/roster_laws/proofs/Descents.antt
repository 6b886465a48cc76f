-- Along a log the penalty never rises, and it falls at each change.
use Rattle.std.proofs.Common.{◌≡◌, ◌∙◌, ◌+◌, ◌≤◌, ◌⊎◌, ℕ, zero, suc, Bool, true, false, cond, inl, inr, ap, arith, sym, subst, refl, List, [], ◌∷◌, ◌++◌}
use Rattle.std.specs.List.{All, AllPairs, fold, range_with_len}
use Rattle.std.proofs.lemmas.Bool.{cases_Bool, true≢false}
use Rattle.std.proofs.lemmas.List.Elements.{All-cons, All-nil}
use Rattle.std.proofs.lemmas.List.Kept.{AllPairs-cons}
use Rattle.roster_rules.specs.Improver.{BestRows, Entry, changed, changes, entries_from, entry, log_of, round, round_done, round_log, same_rows, settled, started, step, stopped}
use Rattle.roster_instance.specs.Meaning.{Meaning, nurse_count}
use Rattle.roster_rules.specs.Penalties.{penalty, penalty_unit}
use Rattle.roster_instance.specs.Rosters.{Rows}
use Rattle.roster_laws.specs.Logs.{Descends, is_change}
use Rattle.roster_laws.proofs.Runs.{entries-goes_on, entries-settled}
use Rattle.roster_laws.proofs.SameRows.{same_rows_is}
use Rattle.roster_laws.proofs.Steps.{falls_by_unit}

-- from the penalty p the entries go down to q
abbrev GoesDown : Meaning → ℕ → ℕ → List Entry → Type 0
GoesDown c p q [] = q ≤ p
GoesDown c p q (e ∷ es) = (penalty c e.roster ≤ p) × ((is_change e.event ≡ true → penalty c e.roster + penalty_unit c ≤ p) × GoesDown c (penalty c e.roster) q es)

module _ (c : Meaning) where
  from_above : (p m q : ℕ) (es : List Entry) → m ≤ p → GoesDown c m q es → GoesDown c p q es
  from_above p m q [] h down = omega (arith, h, down)
  from_above p m q (e ∷ es) h down = (omega (arith, h, down.0), ((λ change. omega (arith, h, down.1.0 change)), down.1.1))

  and_then : (p m q : ℕ) (xs ys : List Entry) → GoesDown c p m xs → GoesDown c m q ys → GoesDown c p q (xs ++ ys)
  and_then p m q [] ys down more = from_above p m q ys down more
  and_then p m q (x ∷ xs) ys down more = (down.0, (down.1.0, and_then (penalty c x.roster) m q xs ys down.1.1 more))

  -- an entry that is no change
  one_more : (p q : ℕ) (e : Entry) (es : List Entry) → is_change e.event ≡ false → penalty c e.roster ≤ p → GoesDown c (penalty c e.roster) q es → GoesDown c p q (e ∷ es)
  one_more p q e es other h down = (h, ((λ change. absurd (true≢false (sym change ∙ other))), down))

  all_below : (p q : ℕ) (e : Entry) (es : List Entry) → p ≤ penalty c e.roster → GoesDown c p q es → All (Descends c e) es
  all_below p q e [] h down = All-nil (Descends c e)
  all_below p q e (x ∷ es) h down =
      All-cons (Descends c e) x es (record { never_rises = omega (arith, h, down.0); falls = λ change. omega (arith, h, down.1.0 change) }) (all_below (penalty c x.roster) q e es (omega (arith, h, down.0)) down.1.1)

  pairs : (p q : ℕ) (es : List Entry) → GoesDown c p q es → AllPairs (Descends c) es
  pairs p q [] down = λ i j d before within. absurd (omega (arith, within))
  pairs p q (x ∷ es) down = AllPairs-cons (Descends c) x es (all_below (penalty c x.roster) q x es (omega arith) down.1.1) (pairs (penalty c x.roster) q es down.1.1)

  module _ (best : BestRows) where
    changes_down : (k : ℕ) (ns : List ℕ) (r : Rows) → GoesDown c (penalty c r) (penalty c (fold (step c best) r ns)) (changes c best k ns r)
    changes_down k [] r = omega arith
    changes_down k (n ∷ ns) r =
        let next = step c best r n in
        let end = penalty c (fold (step c best) next ns) in
        let rest = changes_down k ns next in
        let go : (b : Bool) → same_rows next r ≡ b → GoesDown c (penalty c r) end (cond b [] (entry (changed k n) next ∷ []) ++ changes c best k ns next) =
        elim [
          | true ↦ (λ e. subst (λ s. GoesDown c (penalty c s) end (changes c best k ns next)) (same_rows_is next r e) rest)
          | false ↦ (λ e. (let fall = falls_by_unit c best r n e in (omega (arith, fall), ((λ change. fall), rest))))
        ] in
        go (same_rows next r) refl

    round_down : (k : ℕ) (r : Rows) → GoesDown c (penalty c r) (penalty c (round c best r)) (round_log c best k r)
    unfolding round
    round_down k r =
        let next = fold (step c best) r (range_with_len 0 (nurse_count c)) in
        and_then (penalty c r) (penalty c next) (penalty c next) (changes c best k (range_with_len 0 (nurse_count c)) r) (entry (round_done k) next ∷ []) (changes_down k (range_with_len 0 (nurse_count c)) r)
        (one_more (penalty c next) (penalty c next) (entry (round_done k) next) [] refl (omega arith) (omega arith))

    entries_down : (k m : ℕ) (r : Rows) → GoesDown c (penalty c r) 0 (entries_from c best k m r)
    entries_down k zero r = one_more (penalty c r) 0 (entry stopped r) [] refl (omega arith) (omega arith)
    entries_down k (suc m) r =
        let next = round c best r in
        let go : (same_rows next r ≡ true) ⊎ (same_rows next r ≡ false) → GoesDown c (penalty c r) 0 (entries_from c best k (suc m) r) =
        elim [
          | inl same ↦ rw (entries-settled c best k m r same) (and_then (penalty c r) (penalty c next) 0 (round_log c best k r) (entry settled r ∷ []) (round_down k r)
              (one_more (penalty c next) 0 (entry settled r) [] refl (omega (arith, ap (penalty c) (same_rows_is next r same))) (omega arith)))
          | inr differs ↦ rw (entries-goes_on c best k m r differs) (and_then (penalty c r) (penalty c next) 0 (round_log c best k r) (entries_from c best (k + 1) m next) (round_down k r) (entries_down (k + 1) m next))
        ] in
        go (cases_Bool (same_rows next r))

    pub log_descends : (rounds : ℕ) (r : Rows) → AllPairs (Descends c) (log_of c best rounds r)
    unfolding log_of
    log_descends rounds r = pairs (penalty c r) 0 (entry started r ∷ entries_from c best 1 rounds r) (one_more (penalty c r) 0 (entry started r) (entries_from c best 1 rounds r) refl (omega arith) (entries_down 1 rounds r))
