-- A bound depends on the dual prices at the case's slots alone.
use Rattle.std.proofs.Common.{◌≡◌, ◌+◌, ◌-◌, ◌*◌, ◌<◌, ◌==◌, ℕ, Bool, true, false, ap, ap₂, refl, arith, List, [], ◌∷◌, length, nat_lt, Contains, None, Option, Some, if◌then◌else◌}
use Rattle.std.specs.List.{All, list_all}
use Rattle.std.specs.Option.{option_map_or}
use Rattle.std.proofs.lemmas.Bool.{and_parts, eqb-true, ltb-true}
use Rattle.std.proofs.lemmas.List.Elements.{All-contains_itself, All-filter, All-get_or, All-head, All-tail, All-weaker}
use Rattle.std.proofs.lemmas.List.Sums.{AllPass-from_list_all}
use Rattle.roster_instance.specs.declared.choice.Choice.{Choice}
use Rattle.roster_instance.specs.declared.choice.Choice.TheVariants.{Off, Work}
use Rattle.roster_instance.specs.Choices.{all_choices, all_rows, days_of, shift_of}
use Rattle.roster_instance.specs.Counting.{sum_below}
use Rattle.roster_instance.specs.Meaning.{Meaning, day_count, nurse_count, shift_count, skill_count}
use Rattle.roster_instance.specs.Rosters.{Row, Rows, choice_on, is_choice_of, is_row_of}
use Rattle.roster_rules.specs.AllowedRows.{cheaper_of, first_least}
use Rattle.roster_rules.specs.Penalties.{own_cost, request_cost_on}
use Rattle.roster_rules.proofs.RunSums.{sum_same}
use Rattle.roster_laws.proofs.AllRows.{member_is_row}
use Rattle.roster_slots.specs.Slots.{SlotPrices, SameDualPrices, choice_dual_price, most_dual_price, slot_bound, slots_bound}
use Rattle.roster_prices.specs.LowerBounds.{bound_by, can_work, in_points, own_rows, price_by, rounded_up, row_cost_by, row_bound}
use Rattle.roster_bound.proofs.LeastCosts.{least_cost}

-- ---- the first least member, and what it costs

module _ {A : Type 0} (f g : A → ℕ) where
  SameLeast : Option A → Option A → Type 0
  SameLeast o p = (o ≡ p) × (option_map_or f o 0 ≡ option_map_or g p 0)

  chosen : (x y z : A) (b : Bool) (d : Bool) → b ≡ d → y ≡ z → f x ≡ g x → f y ≡ g z → SameLeast (Some (if b then y else x)) (Some (if d then z else x))
  unfolding SameLeast
  chosen x y z true true e same at_x at_y = (ap Some same, at_y)
  chosen x y z true false e same at_x at_y = absurd cc
  chosen x y z false true e same at_x at_y = absurd cc
  chosen x y z false false e same at_x at_y = (refl, at_x)

  one_more : (x : A) (o p : Option A) → f x ≡ g x → SameLeast o p → SameLeast (Some (cheaper_of f x o)) (Some (cheaper_of g x p))
  unfolding SameLeast
  one_more x None None at_x same = (refl, at_x)
  one_more x None (Some z) at_x same = absurd (let e = same.0 in cc)
  one_more x (Some y) None at_x same = absurd (let e = same.0 in cc)
  one_more x (Some y) (Some z) at_x same =
      chosen x y z (nat_lt (f y) (f x)) (nat_lt (g z) (g x)) (ap₂ nat_lt same.1 at_x) (ap (λ o. elim o [ None ↦ y | Some v ↦ v ]) same.0) at_x same.1

  least_pair : (xs : List A) → All (λ x. f x ≡ g x) xs → SameLeast (first_least f xs) (first_least g xs)
  unfolding SameLeast
  least_pair [] each = (refl, refl)
  least_pair (x ∷ xs) each = one_more x (first_least f xs) (first_least g xs) (All-head (λ y. f y ≡ g y) x xs each) (least_pair xs (All-tail (λ y. f y ≡ g y) x xs each))

  pub least_same : (xs : List A) → All (λ x. f x ≡ g x) xs → least_cost f xs ≡ least_cost g xs
  unfolding SameLeast
  least_same xs each = (least_pair xs each).1

-- ---- a case, and dual prices that agree at its slots

module _ (c : Meaning) (scale : ℕ) (w v : SlotPrices) (same : SameDualPrices c w v) where
  dual_price_same : (d : ℕ) (x : Choice) → d < day_count c → is_choice_of c x ≡ true → choice_dual_price w d x ≡ choice_dual_price v d x
  dual_price_same d Off inside is = refl
  dual_price_same d (Work s k) inside is =
      let parts = and_parts (nat_lt s.0 (shift_count c)) (nat_lt k.0 (skill_count c)) is in
      same d s.0 k.0 inside (ltb-true s.0 (shift_count c) parts.0) (ltb-true k.0 (skill_count c) parts.1)

  row_same : (n : ℕ) (row : Row) → is_row_of c row ≡ true → row_cost_by c scale w n row ≡ row_cost_by c scale v n row
  row_same n row is =
      let parts = and_parts (length row == day_count c) (list_all (is_choice_of c) row) is in
      let days : length row ≡ day_count c = eqb-true (length row) (day_count c) parts.0 in
      let choice : (d : ℕ) → d < length row → is_choice_of c (choice_on row d) ≡ true = λ d inside. All-get_or (λ x. is_choice_of c x ≡ true) row d Off inside (AllPass-from_list_all (is_choice_of c) row parts.1) in
      ap (λ m. scale * own_cost c n (days_of row) + m)
      (sum_same (length row) (λ d. price_by c scale w n d (choice_on row d)) (λ d. price_by c scale v n d (choice_on row d))
      (λ d inside. ap (λ e. (scale * most_dual_price - e) + scale * request_cost_on c n d (shift_of (choice_on row d))) (dual_price_same d (choice_on row d) (omega (arith, inside, days)) (choice d inside))))

  row_bound_same : (from : ℕ) (given : Rows) (n : ℕ) → row_bound c from given scale w n ≡ row_bound c from given scale v n
  row_bound_same from given n =
      let rows : List Row = all_rows (all_choices c) (day_count c) in
      let P : Row → Type 0 = λ row. row_cost_by c scale w n row ≡ row_cost_by c scale v n row in
      least_same (row_cost_by c scale w n) (row_cost_by c scale v n) (own_rows c from given n)
      (All-filter (can_work c from given n) P rows (All-weaker (Contains rows) P (λ row member. row_same n row (member_is_row c row member)) rows (All-contains_itself rows)))

  slots_same : slots_bound c scale w ≡ slots_bound c scale v
  slots_same =
      let at : SlotPrices → ℕ → ℕ → ℕ = λ u d s. sum_below (skill_count c) (slot_bound c scale u d s) in
      let on : SlotPrices → ℕ → ℕ = λ u d. sum_below (shift_count c) (at u d) in
      sum_same (day_count c) (on w) (on v)
      (λ d hd. sum_same (shift_count c) (at w d) (at v d)
      (λ s hs. sum_same (skill_count c) (slot_bound c scale w d s) (slot_bound c scale v d s) (λ k hk. ap (λ e. slot_bound c scale (λ day shift skill. e) d s k) (same d s k hd hs hk))))

module _ (c : Meaning) (from : ℕ) (given : Rows) (scale : ℕ) (w v : SlotPrices) (same : SameDualPrices c w v) where
  pub bound_same : bound_by c from given scale w ≡ bound_by c from given scale v
  unfolding bound_by
  bound_same =
      ap₂ (λ slots nurses. rounded_up c (in_points scale (slots + nurses - nurse_count c * (day_count c * (scale * most_dual_price))))) (slots_same c scale w v same)
      (sum_same (nurse_count c) (row_bound c from given scale w) (row_bound c from given scale v) (λ n inside. row_bound_same c scale w v same from given n))
