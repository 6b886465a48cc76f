-- Days that are tried one after another until one of them breaks a rule.
use Rattle.std.proofs.Common.{◌≡◌, ◌∙◌, ◌+◌, ◌<◌, ◌⊎◌, ◌&&◌, ℕ, zero, suc, Bool, true, false, ap, ap₂, arith, inl, inr, not, refl, sym}
use Rattle.std.proofs.Math.Bool.{and-false}
use Rattle.std.proofs.lemmas.Bool.{cases_eq}
use Rattle.roster_instance.specs.Counting.{all_below, count_below, one_if}

module _ (breaks : ℕ → Bool) where
  abbrev keeps : ℕ → Bool
  keeps m = all_below m (λ d. not (breaks d))

  -- if no day before m breaks it
  pub keeps-yes : (m : ℕ) → ((d : ℕ) → d < m → breaks d ≡ false) → keeps m ≡ true
  keeps-yes zero none = refl
  keeps-yes (suc m) none = ap₂ (λ a b. a && not b) (keeps-yes m (λ d h. none d (omega arith))) (none m (omega arith))

  -- if one before m does
  keeps-no : (m d : ℕ) → d < m → breaks d ≡ true → keeps m ≡ false
  keeps-no zero d h is = absurd (omega arith)
  keeps-no (suc m) d h is = go (λ before. keeps-no m d before is) (cases_eq d m)
    where
      go : (d < m → keeps m ≡ false) → (d ≡ m) ⊎ (d ≡ m → ⊥) → keeps (suc m) ≡ false
      go front (inl same) = ap (λ b. keeps m && not b) (sym (ap breaks same) ∙ is) ∙ and-false (keeps m)
      go front (inr other) = ap (λ a. a && not (breaks m)) (front (omega (arith, h, other)))

  -- if none but perhaps the last breaks it, all days are tried
  pub tried-all : (n : ℕ) → ((d : ℕ) → d + 1 < n → breaks d ≡ false) → count_below n keeps ≡ n
  tried-all zero none = refl
  tried-all (suc n) none =
      let one : one_if (keeps n) ≡ 1 = ap one_if (keeps-yes n (λ d h. none d (omega arith))) in
      let front : count_below n keeps ≡ n = tried-all n (λ d h. none d (omega arith)) in
      omega (arith, one, front)

  -- else those up to the first that breaks it are
  pub tried-up_to : (n d : ℕ) → d < n → ((e : ℕ) → e < d → breaks e ≡ false) → breaks d ≡ true → count_below n keeps ≡ d + 1
  tried-up_to zero d h none is = absurd (omega arith)
  tried-up_to (suc n) d h none is = go (λ before. tried-up_to n d before none is) (cases_eq d n)
    where
      go : (d < n → count_below n keeps ≡ d + 1) → (d ≡ n) ⊎ (d ≡ n → ⊥) → count_below (suc n) keeps ≡ d + 1
      go front (inl same) =
          let all : count_below (suc n) keeps ≡ suc n = tried-all (suc n) (λ e before. none e (omega arith)) in
          omega (arith, all)
      go front (inr other) =
          let before : d < n = omega (arith, h, other) in
          let none_more : one_if (keeps n) ≡ 0 = ap one_if (keeps-no n d before is) in
          omega (arith, none_more, front before)
