-- The shortfall of a day with one nurse more, and that a day without a shortfall meets each number.
use Rattle.std.proofs.Common.{◌≡◌, ◌∙◌, ◌+◌, ◌-◌, ◌*◌, ◌<◌, ◌≤◌, ◌&&◌, ◌==◌, ◌⊎◌, ℕ, zero, suc, Bool, true, false, not, inl, inr, ap, ap₂, arith, refl, sym, nat_lt}
use Rattle.std.proofs.Math.Bool.{and-false}
use Rattle.std.proofs.lemmas.Bool.{cases_lt, eq-eqb, ne_eqb, le-ltb, lt-ltb}
use Rattle.roster_instance.specs.declared.choice.Choice.TheVariants.{Off, Work}
use Rattle.roster_instance.specs.declared.choice.Shift.{Shift}
use Rattle.roster_instance.specs.declared.choice.Skill.{Skill}
use Rattle.roster_instance.specs.Counting.{all_below, one_if, sum_below}
use Rattle.roster_instance.specs.Meaning.{Meaning, day_count, minimum, optimum, shift_count, skill_count}
use Rattle.roster_instance.specs.Rosters.{Rows, cover}
use Rattle.roster_rules.specs.Penalties.{staffing_cost, staffing_cost_by}
use Rattle.roster_rules.specs.Weights.{staffing_weight}
use Rattle.roster_rules.proofs.RunSums.{sum_same}
use Rattle.roster_laws.specs.Staffing.{shortfall, meets, with_choice}
use Rattle.roster_laws.proofs.Below.{sum_at}

sum_changed : (m n : ℕ) (f g : ℕ → ℕ) → n < m → ((k : ℕ) → (k ≡ n → ⊥) → f k ≡ g k) → sum_below m f + g n ≡ sum_below m g + f n
sum_changed m n f g within same = omega (arith, sum_at m n f g within same, sum_at m n g g within (λ k e. refl))

one_less : (w h : ℕ) (b : Bool) → b ≡ true → w - (h + one_if b) + one_if (nat_lt h w) ≡ w - h
one_less w h b e = go (cases_lt h w)
  where
    go : (h < w) ⊎ (w ≤ h) → w - (h + one_if b) + one_if (nat_lt h w) ≡ w - h
    go (inl k) = rw (e, lt-ltb h w k) (omega arith)
    go (inr k) = rw (e, le-ltb h w k) (omega arith)

pub no_less : (w h : ℕ) (b : Bool) → b ≡ false → w - (h + one_if b) ≡ w - h
no_less w h b e = rw e (omega arith)

scaled : (n : ℕ) (f : ℕ → ℕ) → sum_below n (λ k. staffing_weight * f k) ≡ staffing_weight * sum_below n f
scaled zero f = refl
scaled (suc n) f = omega (arith, scaled n f)

-- ---- there is no shortfall if each number is met

sum_none : (a b : ℕ) → ((a + b) == 0) ≡ ((a == 0) && (b == 0))
sum_none a b = grind arith

none_short : (w h : ℕ) → ((w - h) == 0) ≡ not (nat_lt h w)
none_short w h = grind arith

all_none : (n : ℕ) (f : ℕ → ℕ) (p : ℕ → Bool) → ((k : ℕ) → (f k == 0) ≡ p k) → (sum_below n f == 0) ≡ all_below n p
all_none zero f p each = refl
all_none (suc n) f p each = sum_none (sum_below n f) (f n) ∙ ap₂ (λ a b. a && b) (all_none n f p each) (each n)

module _ (c : Meaning) where
  pub staffing-shortfall : (d : ℕ) (have : ℕ → ℕ → ℕ) → staffing_cost_by c d have ≡ staffing_weight * shortfall c (optimum c d) have
  staffing-shortfall d have =
      (λ i. sum_below (shift_count c) (λ s. scaled (skill_count c) (λ k. optimum c d s k - have s k) i)) ∙ scaled (shift_count c) (λ s. sum_below (skill_count c) (λ k. optimum c d s k - have s k))

  pub staffing_cost-shortfall : (r : Rows) → staffing_cost c r ≡ staffing_weight * sum_below (day_count c) (λ d. shortfall c (optimum c d) (cover r d))
  staffing_cost-shortfall r = (λ i. sum_below (day_count c) (λ d. staffing-shortfall d (cover r d) i)) ∙ scaled (day_count c) (λ d. shortfall c (optimum c d) (cover r d))

  pub meets-shortfall : (d : ℕ) (have : ℕ → ℕ → ℕ) → meets c d have ≡ (shortfall c (minimum c d) have == 0)
  meets-shortfall d have = sym (all_none (shift_count c) _ _ (λ s. all_none (skill_count c) _ _ (λ k. none_short (minimum c d s k) (have s k))))

  module _ (want have : ℕ → ℕ → ℕ) where
    pub shortfall-off : shortfall c want (with_choice have Off) ≡ shortfall c want have
    shortfall-off = sum_same (shift_count c) _ (λ s. sum_below (skill_count c) (λ k. want s k - have s k)) (λ s h. sum_same (skill_count c) _ (λ k. want s k - have s k) (λ k l. no_less (want s k) (have s k) false refl))

    pub shortfall-work : (shift : Shift) (skill : Skill) → shift.0 < shift_count c → skill.0 < skill_count c
        → shortfall c want (with_choice have (Work shift skill)) + one_if (nat_lt (have shift.0 skill.0) (want shift.0 skill.0)) ≡ shortfall c want have
    shortfall-work shift skill shift_in skill_in =
        let s = shift.0 in
        let k = skill.0 in
        let here : (t l : ℕ) → ℕ = λ t l. want t l - with_choice have (Work shift skill) t l in
        let was : (t l : ℕ) → ℕ = λ t l. want t l - have t l in
        let outer = sum_changed (shift_count c) s (λ t. sum_below (skill_count c) (here t)) (λ t. sum_below (skill_count c) (was t)) shift_in
        (λ t e. sum_same (skill_count c) (here t) (was t) (λ l h. no_less (want t l) (have t l) ((s == t) && (k == l)) (ap (λ b. b && (k == l)) (ne_eqb s t (λ d. e (sym d)))))) in
        let inner = sum_changed (skill_count c) k (here s) (was s) skill_in
        (λ l e. no_less (want s l) (have s l) ((s == s) && (k == l)) (ap (λ b. (s == s) && b) (ne_eqb k l (λ d. e (sym d))) ∙ and-false (s == s))) in
        omega (arith, outer, inner, one_less (want s k) (have s k) ((s == s) && (k == k)) (ap₂ (λ a b. a && b) (eq-eqb s s refl) (eq-eqb k k refl)))
