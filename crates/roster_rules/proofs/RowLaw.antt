-- The violations of runs in a row with one more day: what the first days give doesn't depend on the days
-- after them.
use Rattle.std.proofs.Common.{◌≡◌, ap, sym, ◌∙◌, arith, ℕ, zero, suc, ◌+◌, ◌<◌, Bool, [], ◌∷◌, ◌++◌, length, if◌then◌else◌, Option}
use Rattle.roster_instance.specs.declared.choice.Shift.{Shift}
use Rattle.roster_instance.specs.declared.rules.Limits.{Limits}
use Rattle.roster_instance.specs.Days.{Days}
use Rattle.roster_instance.specs.RunLaw.{day_violations}
use Rattle.roster_rules.specs.DayLaw.{day_passes, open_run_in, violations_in}
use Rattle.roster_rules.specs.Runs.{run_violations, open_run}
use Rattle.roster_rules.proofs.DayMore.{length_more, shift_before_it, shift_of_it}
use Rattle.roster_rules.proofs.RunLaw.{no_violations, border, violations, grown}

grown_same : (t u : Bool) (x y : ℕ) → t ≡ u → x ≡ y → (if t then x + 1 else 0) ≡ (if u then y + 1 else 0)
grown_same t u x y e f = rw (e, f)

pub same_open : (b : ℕ) (p q : ℕ → Bool) (d : ℕ) → ((k : ℕ) → k < d → p k ≡ q k) → open_run b p d ≡ open_run b q d
same_open b p q zero h = border b p ∙ sym (border b q)
same_open b p q (suc d) h =
    grown b p d
    ∙ (grown_same (p d) (q d) (open_run b p d) (open_run b q d) (h d (omega arith)) (same_open b p q d (λ k l. h k (omega arith)))
    ∙ sym (grown b q d))

day_same : (l : Limits) (t u : Bool) (w x y z : ℕ) → t ≡ u → w ≡ x → y ≡ z → w + day_violations l y t ≡ x + day_violations l z u
day_same l t u w x y z e f g = rw (e, f, g)

pub same_violations : (l : Limits) (b : ℕ) (p q : ℕ → Bool) (d : ℕ) → ((k : ℕ) → k < d → p k ≡ q k) → run_violations l b p d ≡ run_violations l b q d
same_violations l b p q zero h = no_violations l b p ∙ sym (no_violations l b q)
same_violations l b p q (suc d) h =
    let few : (k : ℕ) → k < d → p k ≡ q k = λ k l. h k (omega arith) in
    violations l b p d
    ∙ (day_same l (p d) (q d) (run_violations l b p d) (run_violations l b q d) (open_run b p d) (open_run b q d) (h d (omega arith)) (same_violations l b p q d few) (same_open b p q d few)
    ∙ sym (violations l b q d))

pub row_violations : (l : Limits) (b : ℕ) (t : Option Shift → Bool) (days : Days) (c : Option Shift) → violations_in l b t (days ++ c ∷ []) ≡ violations_in l b t days + day_violations l (open_run_in b t days) (t c)
row_violations l b t days c =
    let p : ℕ → Bool = day_passes t (days ++ c ∷ []) in
    let q : ℕ → Bool = day_passes t days in
    let n : ℕ = length days in
    let same : (k : ℕ) → k < n → p k ≡ q k = λ k h. ap t (shift_before_it days c k h) in
    ap (λ d. run_violations l b p d) (length_more days c)
    ∙ (violations l b p n
    ∙ day_same l (p n) (t c) (run_violations l b p n) (run_violations l b q n) (open_run b p n) (open_run b q n) (ap t (shift_of_it days c)) (same_violations l b p q n same) (same_open b p q n same))

pub row_grown : (b : ℕ) (t : Option Shift → Bool) (days : Days) (c : Option Shift) → open_run_in b t (days ++ c ∷ []) ≡ (if t c then open_run_in b t days + 1 else 0)
row_grown b t days c =
    let p : ℕ → Bool = day_passes t (days ++ c ∷ []) in
    let q : ℕ → Bool = day_passes t days in
    let n : ℕ = length days in
    let same : (k : ℕ) → k < n → p k ≡ q k = λ k h. ap t (shift_before_it days c k h) in
    ap (λ d. open_run b p d) (length_more days c)
    ∙ (grown b p n ∙ grown_same (p n) (t c) (open_run b p n) (open_run b q n) (ap t (shift_of_it days c)) (same_open b p q n same))
