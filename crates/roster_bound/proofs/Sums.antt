-- Sums over slots, and over nurses.
use Rattle.std.proofs.Common.{◌≡◌, ◌∙◌, ◌+◌, ◌*◌, ◌<◌, ◌≤◌, ◌==◌, ◌⊎◌, ℕ, zero, suc, Bool, inl, inr, ap, arith, refl, List, length, take, get_or, if◌then◌else◌}
use Rattle.std.specs.List.{count_by}
use Rattle.std.proofs.Math.Nat.{suc-mul}
use Rattle.std.proofs.lemmas.Bool.{cases_eq, eq-eqb, ne_eqb}
use Rattle.std.proofs.lemmas.List.Sums.{sum_by_more}
use Rattle.std.proofs.lemmas.List.{take_all}
use Rattle.roster_instance.specs.Counting.{one_if, sum_below}
use Rattle.roster_rules.proofs.RunSums.{sum_zero}

pub sum_le : (n : ℕ) (f g : ℕ → ℕ) → ((k : ℕ) → k < n → f k ≤ g k) → sum_below n f ≤ sum_below n g
sum_le zero f g h = omega arith
sum_le (suc n) f g h = omega (arith, sum_le n f g (λ k l. h k (omega arith)), h n (omega arith))

pub sum_same_number : (n m : ℕ) → sum_below n (λ k. m) ≡ n * m
sum_same_number zero m = omega arith
sum_same_number (suc n) m = omega (arith, sum_same_number n m, suc-mul n m)

-- a sum of numbers that are as many times as much
pub sum_times : (scale n : ℕ) (f g : ℕ → ℕ) → ((k : ℕ) → g k ≡ scale * f k) → sum_below n g ≡ scale * sum_below n f
sum_times scale zero f g each = omega arith
sum_times scale (suc n) f g each = omega (arith, sum_times scale n f g each, each n)

-- a sum in which at most one number counts
pub sum_of_one : (n t : ℕ) (f : ℕ → ℕ) → sum_below n (λ s. if t == s then f s else 0) ≤ f t
sum_of_one zero t f = omega arith
sum_of_one (suc n) t f = go (cases_eq t n) (sum_of_one n t f)
  where
    go : (t ≡ n) ⊎ (t ≡ n → ⊥) → sum_below n (λ s. if t == s then f s else 0) ≤ f t → sum_below n (λ s. if t == s then f s else 0) + (if t == n then f n else 0) ≤ f t
    go (inl e) rest =
        let before : sum_below n (λ s. if t == s then f s else 0) ≡ 0 = sum_zero n (λ s. if t == s then f s else 0) (λ s l. ap (λ b. if b then f s else 0) (ne_eqb t s (λ d. absurd (omega arith)))) in
        omega (arith, before, ap (λ b. if b then f n else 0) (eq-eqb t n e), ap f e)
    go (inr e) rest = omega (arith, rest, ap (λ b. if b then f n else 0) (ne_eqb t n e))

-- ---- a count over a list as a sum over its slots

count_before : {X : Type 0} (p : X → Bool) (xs : List X) (d : X) (m : ℕ) → m ≤ length xs → sum_below m (λ i. one_if (p (get_or xs i d))) ≡ count_by p (take m xs)
count_before p xs d zero h = refl
count_before p xs d (suc m) h =
    let one : m + 1 ≡ suc m = omega arith in
    omega (arith, count_before p xs d m (omega arith), sum_by_more (λ x. one_if (p x)) xs m d (omega arith), ap (λ k. count_by p (take k xs)) one)

pub count_by_slot : {X : Type 0} (p : X → Bool) (xs : List X) (d : X) → sum_below (length xs) (λ i. one_if (p (get_or xs i d))) ≡ count_by p xs
count_by_slot p xs d = count_before p xs d (length xs) (omega arith) ∙ ap (count_by p) (take_all (length xs) xs (omega arith))

-- ---- over all slots of some days, shifts and skills

abbrev pub over_slots : (days shifts skills : ℕ) → (ℕ → ℕ → ℕ → ℕ) → ℕ
over_slots days shifts skills f = sum_below days (λ d. sum_below shifts (λ s. sum_below skills (f d s)))

module _ (days shifts skills : ℕ) where
  pub slots_le : (f g : ℕ → ℕ → ℕ → ℕ) → ((d s k : ℕ) → d < days → s < shifts → k < skills → f d s k ≤ g d s k) → over_slots days shifts skills f ≤ over_slots days shifts skills g
  slots_le f g h =
      sum_le days (λ d. sum_below shifts (λ s. sum_below skills (f d s))) (λ d. sum_below shifts (λ s. sum_below skills (g d s)))
      (λ d hd. sum_le shifts (λ s. sum_below skills (f d s)) (λ s. sum_below skills (g d s)) (λ s hs. sum_le skills (f d s) (g d s) (λ k hk. h d s k hd hs hk)))

  -- the sum of two numbers at each slot
  sum_of_sums : (n : ℕ) (f g h : ℕ → ℕ) → ((k : ℕ) → f k ≡ g k + h k) → sum_below n f ≡ sum_below n g + sum_below n h
  sum_of_sums zero f g h each = refl
  sum_of_sums (suc n) f g h each = omega (arith, sum_of_sums n f g h each, each n)

  pub slots_both : (f g h : ℕ → ℕ → ℕ → ℕ) → ((d s k : ℕ) → f d s k ≡ g d s k + h d s k) → over_slots days shifts skills f ≡ over_slots days shifts skills g + over_slots days shifts skills h
  slots_both f g h each =
      let of_shift : (ℕ → ℕ → ℕ → ℕ) → ℕ → ℕ → ℕ = λ e d s. sum_below skills (e d s) in
      let of_day : (ℕ → ℕ → ℕ → ℕ) → ℕ → ℕ = λ e d. sum_below shifts (of_shift e d) in
      sum_of_sums days (of_day f) (of_day g) (of_day h) (λ d. sum_of_sums shifts (of_shift f d) (of_shift g d) (of_shift h d) (λ s. sum_of_sums skills (f d s) (g d s) (h d s) (each d s)))

  pub slots_times : (scale : ℕ) (f g : ℕ → ℕ → ℕ → ℕ) → ((d s k : ℕ) → g d s k ≡ scale * f d s k) → over_slots days shifts skills g ≡ scale * over_slots days shifts skills f
  slots_times scale f g each =
      let of_shift : (ℕ → ℕ → ℕ → ℕ) → ℕ → ℕ → ℕ = λ e d s. sum_below skills (e d s) in
      let of_day : (ℕ → ℕ → ℕ → ℕ) → ℕ → ℕ = λ e d. sum_below shifts (of_shift e d) in
      sum_times scale days (of_day f) (of_day g) (λ d. sum_times scale shifts (of_shift f d) (of_shift g d) (λ s. sum_times scale skills (f d s) (g d s) (each d s)))

  pub slots_none : (f : ℕ → ℕ → ℕ → ℕ) → ((d s k : ℕ) → f d s k ≡ 0) → over_slots days shifts skills f ≡ 0
  slots_none f none =
      sum_zero days (λ d. sum_below shifts (λ s. sum_below skills (f d s))) (λ d hd. sum_zero shifts (λ s. sum_below skills (f d s)) (λ s hs. sum_zero skills (f d s) (λ k hk. none d s k)))
