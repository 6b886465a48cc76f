-- Dual prices of whole points have the same bound at each scale: what slots and rows cost is as many times as
-- much as in points, so the same rows are the cheapest.
use Rattle.std.proofs.Common.{◌≡◌, ◌∙◌, ◌+◌, ◌-◌, ◌*◌, ◌/◌, ◌<◌, ◌≤◌, ◌⊎◌, ℕ, ap, arith, inl, inr, refl, sym, List, [], ◌∷◌, length, max, min, nat_lt, None, Option, Some, if◌then◌else◌}
use Rattle.std.specs.Option.{option_map_or}
use Rattle.std.proofs.Math.Nat.{mul-le-mul_left, mul-lt-mul_of_pos_left, mul-sub}
use Rattle.std.proofs.lemmas.Bool.{cases_lt, le-ltb, lt-ltb}
use Rattle.std.proofs.lemmas.Nat.{div-mul-add}
use Rattle.roster_instance.specs.declared.choice.Choice.{Choice}
use Rattle.roster_instance.specs.declared.choice.Choice.TheVariants.{Off, Work}
use Rattle.roster_instance.specs.Counting.{sum_below}
use Rattle.roster_instance.specs.Meaning.{Meaning, day_count, minimum, nurse_count, optimum, shift_count, skill_count}
use Rattle.roster_instance.specs.Rosters.{Row, Rows, choice_on}
use Rattle.roster_rules.specs.AllowedRows.{cheaper_of, first_least}
use Rattle.roster_rules.specs.Weights.{staffing_weight}
use Rattle.roster_slots.specs.Slots.{SlotPrices, asks_for_nurses, choice_dual_price, most_dual_price, slot_bound, slot_cost, slots_bound}
use Rattle.roster_slots.proofs.PriceLemmas.{even_parts}
use Rattle.roster_prices.specs.LowerBounds.{bound_by, first_bound, first_dual_prices, in_points, lagrangian_bound, own_rows, price_by, rounded_up, row_bound, row_cost_by}
use Rattle.roster_bound.proofs.LeastCosts.{least_cost}
use Rattle.roster_bound.proofs.Sums.{slots_times, sum_times}

-- ---- parts of whole points, rounded up

in_points_one : (points : ℕ) → in_points 1 points ≡ points
in_points_one points = omega arith

module _ (scale : ℕ) (some : 0 < scale) where
  in_points_times : (points : ℕ) → in_points scale (scale * points) ≡ points
  in_points_times points =
      let turned : scale * points + (scale - 1) ≡ points * scale + (scale - 1) = omega arith in
      ap (λ parts. parts / scale) turned ∙ div-mul-add points scale (scale - 1) (omega (arith, some))

  min_times : (a b : ℕ) → min (scale * a) (scale * b) ≡ scale * min a b
  min_times a b = go (cases_lt a b)
    where
      go : (a < b) ⊎ (b ≤ a) → min (scale * a) (scale * b) ≡ scale * min a b
      go (inl below) =
          let least : min a b ≡ a = omega arith in
          let no_more : a ≤ b = omega arith in
          omega (arith, ap (λ k. scale * k) least, mul-le-mul_left scale no_more)
      go (inr above) =
          let least : min a b ≡ b = omega arith in
          omega (arith, ap (λ k. scale * k) least, mul-le-mul_left scale above)

  -- ---- the first least member stays, and costs as many times as much

  lt_times : (a b : ℕ) → nat_lt (scale * a) (scale * b) ≡ nat_lt a b
  lt_times a b = go (cases_lt a b)
    where
      go : (a < b) ⊎ (b ≤ a) → nat_lt (scale * a) (scale * b) ≡ nat_lt a b
      go (inl below) = lt-ltb (scale * a) (scale * b) (mul-lt-mul_of_pos_left below some) ∙ sym (lt-ltb a b below)
      go (inr above) = le-ltb (scale * a) (scale * b) (mul-le-mul_left scale above) ∙ sym (le-ltb a b above)

  module _ {A : Type 0} (f g : A → ℕ) (times : (x : A) → g x ≡ scale * f x) where
    cheaper_times : (x : A) (o : Option A) → cheaper_of g x o ≡ cheaper_of f x o
    cheaper_times x None = refl
    cheaper_times x (Some y) = (λ i. if nat_lt (times y i) (times x i) then y else x) ∙ ap (λ b. if b then y else x) (lt_times (f y) (f x))

    first_times : (xs : List A) → first_least g xs ≡ first_least f xs
    first_times [] = refl
    first_times (x ∷ xs) = ap (λ o. Some (cheaper_of g x o)) (first_times xs) ∙ ap Some (cheaper_times x (first_least f xs))

    least_times : (xs : List A) → least_cost g xs ≡ scale * least_cost f xs
    least_times xs = ap (λ o. option_map_or g o 0) (first_times xs) ∙ of_it (first_least f xs)
      where
        of_it : (o : Option A) → option_map_or g o 0 ≡ scale * option_map_or f o 0
        of_it None = omega arith
        of_it (Some x) = times x

  -- ---- a case, and dual prices in points

  module _ (c : Meaning) (w : SlotPrices) where
    in_parts : SlotPrices
    in_parts d s k = scale * w d s k

    cost_times : (d s k nurses : ℕ) → slot_cost c scale in_parts d s k nurses ≡ scale * slot_cost c 1 w d s k nurses
    unfolding in_parts
    cost_times d s k nurses = omega arith

    slot_times : (d s k : ℕ) → slot_bound c scale in_parts d s k ≡ scale * slot_bound c 1 w d s k
    slot_times d s k =
        let few : ℕ = minimum c d s k in
        let all : ℕ = max (minimum c d s k) (optimum c d s k) in
        (λ i. min (cost_times d s k few i) (cost_times d s k all i)) ∙ min_times (slot_cost c 1 w d s k few) (slot_cost c 1 w d s k all)

    all_slots_times : slots_bound c scale in_parts ≡ scale * slots_bound c 1 w
    all_slots_times = slots_times (day_count c) (shift_count c) (skill_count c) scale (slot_bound c 1 w) (slot_bound c scale in_parts) slot_times

    earns_times : (d : ℕ) (x : Choice) → choice_dual_price in_parts d x ≡ scale * choice_dual_price w d x
    unfolding in_parts
    earns_times d Off = omega arith
    earns_times d (Work s k) = refl

    price_times : (n d : ℕ) (x : Choice) → price_by c scale in_parts n d x ≡ scale * price_by c 1 w n d x
    price_times n d x = omega (arith, earns_times d x, mul-sub scale most_dual_price (choice_dual_price w d x))

    row_times : (n : ℕ) (row : Row) → row_cost_by c scale in_parts n row ≡ scale * row_cost_by c 1 w n row
    row_times n row =
        omega (
          arith,
          sum_times scale (length row) (λ d. price_by c 1 w n d (choice_on row d)) (λ d. price_by c scale in_parts n d (choice_on row d)) (λ d. price_times n d (choice_on row d)),
        )

    module _ (from : ℕ) (given : Rows) where
      bound_times : (n : ℕ) → row_bound c from given scale in_parts n ≡ scale * row_bound c from given 1 w n
      bound_times n = least_times (row_cost_by c 1 w n) (row_cost_by c scale in_parts n) (row_times n) (own_rows c from given n)

      all_times : lagrangian_bound c from given scale in_parts ≡ scale * lagrangian_bound c from given 1 w
      all_times =
          together (slots_bound c scale in_parts) (slots_bound c 1 w) (sum_below (nurse_count c) (row_bound c from given scale in_parts)) (sum_below (nurse_count c) (row_bound c from given 1 w)) (nurse_count c) (day_count c)
          all_slots_times (sum_times scale (nurse_count c) (row_bound c from given 1 w) (row_bound c from given scale in_parts) bound_times)
        where
          together : (p q f h nurses days : ℕ) → p ≡ scale * q → f ≡ scale * h → p + f - nurses * (days * (scale * most_dual_price)) ≡ scale * (q + h - nurses * (days * (1 * most_dual_price)))
          together p q f h nurses days e d = omega (arith, e, d, mul-sub scale (q + h) (nurses * (days * most_dual_price)))

      pub points_bound : bound_by c from given scale (λ d s k. scale * w d s k) ≡ bound_by c from given 1 w
      unfolding bound_by in_parts
      points_bound =
          let points : ℕ = lagrangian_bound c from given 1 w in
          ap (rounded_up c) (ap (in_points scale) all_times ∙ in_points_times points ∙ sym (in_points_one points))

  -- ---- the dual prices of the first round

  pub first_same : (c : Meaning) (from : ℕ) (given : Rows) → bound_by c from given scale (first_dual_prices c scale) ≡ first_bound c from given
  first_same c from given =
      sym (λ i. bound_by c from given scale (λ d s k. even_parts scale staffing_weight (asks_for_nurses c d s k) i)) ∙ points_bound c (first_dual_prices c 1) from given
