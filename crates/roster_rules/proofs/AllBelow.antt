-- A test of all numbers below a number, after one more number that passes, and after one that fails.
use Rattle.std.proofs.Common.{◌≡◌, ◌∙◌, ◌+◌, ◌<◌, ◌⊎◌, ◌&&◌, ℕ, zero, suc, Bool, true, false, inl, inr, ap, ap₂, arith, sym}
use Rattle.std.proofs.Math.Bool.{and-false}
use Rattle.std.proofs.lemmas.Bool.{cases_eq}
use Rattle.roster_instance.specs.Counting.{all_below}

pub all_more : (p : ℕ → Bool) (i : ℕ) → all_below i p ≡ true → p i ≡ true → all_below (i + 1) p ≡ true
all_more p i all here = let one : i + 1 ≡ suc i = omega arith in ap (λ k. all_below k p) one ∙ ap₂ (λ a b. a && b) all here

pub all_fails : (m : ℕ) (p : ℕ → Bool) (k : ℕ) → k < m → p k ≡ false → all_below m p ≡ false
all_fails zero p k within fails = absurd (omega arith)
all_fails (suc m) p k within fails = go (cases_eq k m) (all_fails m p k)
  where
    go : (k ≡ m) ⊎ (k ≡ m → ⊥) → (k < m → p k ≡ false → all_below m p ≡ false) → (all_below m p && p m) ≡ false
    go (inl e) before = ap (λ b. all_below m p && b) (ap p (sym e) ∙ fails) ∙ and-false (all_below m p)
    go (inr e) before = ap (λ b. b && p m) (before (omega arith) fails)
