-- Steps, and the changes of a round.
use Rattle.std.proofs.Common.{◌≡◌, ℕ, ◌+◌, ◌-◌, ◌≤◌, true, false, cond, List, [], ◌∷◌, ◌++◌, sym, ap, ◌∙◌, arith, refl, append-nil, append_assoc, subst}
use Rattle.std.specs.List.{fold, range_with_len}
use Rattle.std.proofs.lemmas.List.Sums.{fold-append}
use Rattle.roster_bundle.proofs.Ranges.{range_with_len_more, range_with_len-add}
use Rattle.roster_rules.specs.Improver.{BestRows, round_log, Entry, entry, changed, round_done, step, round, changes, same_rows}
use Rattle.roster_instance.specs.Meaning.{Meaning, nurse_count}
use Rattle.roster_instance.specs.Rosters.{Rows}

-- ---- one nurse more

pub fold_more : (c : Meaning) (best : BestRows) (r : Rows) (n : ℕ) → fold (step c best) r (range_with_len 0 (n + 1)) ≡ step c best (fold (step c best) r (range_with_len 0 n)) n
fold_more c best r n = ap (fold (step c best) r) (range_with_len_more n) ∙ fold-append (step c best) r (range_with_len 0 n) (n ∷ [])

pub changes-append : (c : Meaning) (best : BestRows) (k : ℕ) (ns ms : List ℕ) (r : Rows) → changes c best k (ns ++ ms) r ≡ changes c best k ns r ++ changes c best k ms (fold (step c best) r ns)
changes-append c best k [] ms r = refl
changes-append c best k (n ∷ ns) ms r =
    let next = step c best r n in
    let first = cond (same_rows next r) [] (entry (changed k n) next ∷ []) in
    ap (λ l. first ++ l) (changes-append c best k ns ms next) ∙ sym (append_assoc first (changes c best k ns next) (changes c best k ms (fold (step c best) next ns)))

changes_more : (c : Meaning) (best : BestRows) (k : ℕ) (r : Rows) (n : ℕ)
    → let now = fold (step c best) r (range_with_len 0 n) in
    let next = step c best now n in
    changes c best k (range_with_len 0 (n + 1)) r ≡ changes c best k (range_with_len 0 n) r ++ (cond (same_rows next now) [] (entry (changed k n) next ∷ []) ++ [])
changes_more c best k r n = ap (λ l. changes c best k l r) (range_with_len_more n) ∙ changes-append c best k (range_with_len 0 n) (n ∷ []) r

-- the nurse's step changed the roster
pub changes_more_changed : (c : Meaning) (best : BestRows) (k : ℕ) (r now next : Rows) (n : ℕ) → now ≡ fold (step c best) r (range_with_len 0 n) → next ≡ step c best now n → same_rows next now ≡ false
    → changes c best k (range_with_len 0 (n + 1)) r ≡ changes c best k (range_with_len 0 n) r ++ entry (changed k n) next ∷ []
changes_more_changed c best k r now next n now_is next_is differs =
    changes_more c best k r n ∙ ap (λ l. changes c best k (range_with_len 0 n) r ++ l)
    (subst (λ now. (cond (same_rows (step c best now n) now) [] (entry (changed k n) (step c best now n) ∷ []) ++ []) ≡ entry (changed k n) next ∷ []) now_is
    (subst (λ made. (cond (same_rows made now) [] (entry (changed k n) made ∷ []) ++ []) ≡ entry (changed k n) next ∷ []) next_is (rw differs refl)))

-- the nurse's step changed nothing
pub changes_more_same : (c : Meaning) (best : BestRows) (k : ℕ) (r now next : Rows) (n : ℕ) → now ≡ fold (step c best) r (range_with_len 0 n) → next ≡ step c best now n → same_rows next now ≡ true
    → changes c best k (range_with_len 0 (n + 1)) r ≡ changes c best k (range_with_len 0 n) r
changes_more_same c best k r now next n now_is next_is same =
    changes_more c best k r n ∙ ap (λ l. changes c best k (range_with_len 0 n) r ++ l)
    (subst (λ now. (cond (same_rows (step c best now n) now) [] (entry (changed k n) (step c best now n) ∷ []) ++ []) ≡ []) now_is
    (subst (λ made. (cond (same_rows made now) [] (entry (changed k n) made ∷ []) ++ []) ≡ []) next_is (rw same refl)))
    ∙ append-nil (changes c best k (range_with_len 0 n) r)

-- the log of a round goes on after the first nurses
pub round_log-front : (c : Meaning) (best : BestRows) (k : ℕ) (r : Rows) (n : ℕ) → n ≤ nurse_count c → (rest : List Entry) × (round_log c best k r ≡ changes c best k (range_with_len 0 n) r ++ rest)
round_log-front c best k r n within =
    let m = nurse_count c - n in
    let all : nurse_count c ≡ n + m = omega arith in
    let later = changes c best k (range_with_len (0 + n) m) (fold (step c best) r (range_with_len 0 n)) in
    let split : changes c best k (range_with_len 0 (nurse_count c)) r ≡ changes c best k (range_with_len 0 n) r ++ later =
    ap (λ count. changes c best k (range_with_len 0 count) r) all ∙ ap (λ l. changes c best k l r) (range_with_len-add 0 n m) ∙ changes-append c best k (range_with_len 0 n) (range_with_len (0 + n) m) r in
    let last = entry (round_done k) (round c best r) ∷ [] in
    (later ++ last, ap (λ l. l ++ last) split ∙ append_assoc (changes c best k (range_with_len 0 n) r) later last)
