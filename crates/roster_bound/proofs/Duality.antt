-- What the slots pay is what the nurses earn, so the least costs together are at most the penalty, in parts of
-- a point.
use Rattle.std.proofs.Common.{◌≡◌, ◌+◌, ◌-◌, ◌*◌, ◌/◌, ◌%◌, ◌<◌, ◌≤◌, ◌&&◌, ◌==◌, ℕ, zero, suc, Bool, true, false, not, ap, arith, refl, [], length, nat_lt, mul-add, if◌then◌else◌}
use Rattle.std.specs.List.{list_all}
use Rattle.std.proofs.lemmas.Bool.{and_parts, eqb-true}
use Rattle.std.proofs.Math.Nat.{suc-mul}
use Rattle.std.proofs.lemmas.Nat.{div_below}
use Rattle.roster_instance.specs.declared.choice.Choice.{Choice}
use Rattle.roster_instance.specs.declared.choice.Choice.TheVariants.{Off, Work}
use Rattle.roster_instance.specs.Choices.{days_of, same_choice, shift_of}
use Rattle.roster_instance.specs.Counting.{all_below, one_if, sum_below}
use Rattle.roster_rules.specs.HardRules.{keeps_hard}
use Rattle.roster_instance.specs.Meaning.{Meaning, day_count, minimum, nurse_count, optimum, shift_at, shift_count, skill_at, skill_count}
use Rattle.roster_rules.specs.Penalties.{nurse_cost, penalty, request_cost_on, staffing_cost}
use Rattle.roster_instance.specs.Rosters.{Row, Rows, choice_on, cover, days_of_nurse, fits_case, is_row_of, row_of}
use Rattle.roster_rules.specs.Weights.{staffing_weight}
use Rattle.roster_instance.proofs.RosterFacts.{row-length}
use Rattle.roster_rules.proofs.RunSums.{sum_zero, sum_same}
use Rattle.roster_laws.specs.Staffing.{meets}
use Rattle.roster_laws.specs.FrozenDays.{FrozenDaysStay}
use Rattle.roster_rules.proofs.RunBounds.{sum_both}
use Rattle.roster_laws.proofs.Below.{all_elim}
use Rattle.roster_laws.proofs.Fives.{five_is}
use Rattle.roster_laws.proofs.OneRow.{penalty-parts, requests_of_row}
use Rattle.roster_slots.specs.Slots.{AreDualPrices, SlotPrices, choice_dual_price, most_dual_price, slot_bound, slots_bound}
use Rattle.roster_prices.specs.LowerBounds.{IsLowerBound, bound_by, in_points, own_rows, price_by, rounded_up, row_cost_by, row_bound, lagrangian_with}
use Rattle.roster_prices.proofs.OwnRows.{among, two_rules}
use Rattle.roster_bound.proofs.LeastCosts.{least_below, slot_least}
use Rattle.roster_bound.proofs.Sums.{count_by_slot, over_slots, slots_both, slots_le, slots_none, slots_times, sum_le, sum_of_one, sum_same_number, sum_times}

-- ---- what one nurse earns

times_one : (x : ℕ) (b : Bool) → x * one_if b ≡ (if b then x else 0)
times_one x true = omega arith
times_one x false = omega arith

module _ (w : SlotPrices) where
  -- what the slots of a day pay to a choice
  paid_to : Choice → ℕ → ℕ → ℕ → ℕ
  paid_to x d s k = w d s k * one_if (same_choice x (Work (shift_at s) (skill_at k)))

  by_skill : (d t l s : ℕ) (skills : ℕ) (b : Bool) → sum_below skills (λ k. w d s k * one_if (b && (l == k))) ≤ (if b then w d s l else 0)
  by_skill d t l s skills true = omega (arith, sum_same skills (λ k. w d s k * one_if (l == k)) (λ k. if l == k then w d s k else 0) (λ k h. times_one (w d s k) (l == k)), sum_of_one skills l (w d s))
  by_skill d t l s skills false = omega (arith, sum_zero skills (λ k. w d s k * 0) (λ k h. omega arith))

  day_dual_price : (shifts skills d : ℕ) (x : Choice) → sum_below shifts (λ s. sum_below skills (paid_to x d s)) ≤ choice_dual_price w d x
  unfolding paid_to
  day_dual_price shifts skills d Off = omega (arith, sum_zero shifts (λ s. sum_below skills (λ k. w d s k * 0)) (λ s h. sum_zero skills (λ k. w d s k * 0) (λ k l. omega arith)))
  day_dual_price shifts skills d (Work t l) =
      omega (
        arith,
        sum_le shifts (λ s. sum_below skills (λ k. w d s k * one_if ((t.0 == s) && (l.0 == k)))) (λ s. if t.0 == s then w d s l.0 else 0) (λ s h. by_skill d t.0 l.0 s skills (t.0 == s)),
        sum_of_one shifts t.0 (λ s. w d s l.0),
      )

  module _ (days shifts skills : ℕ) (r : Rows) where
    -- how many of the first m nurses are in a slot, and what they earn
    abbrev first_nurses : ℕ → ℕ → ℕ → ℕ → ℕ
    first_nurses m d s k = sum_below m (λ n. one_if (same_choice (choice_on (row_of r n) d) (Work (shift_at s) (skill_at k))))

    abbrev pub row_dual_prices : ℕ → ℕ
    row_dual_prices n = sum_below days (λ d. choice_dual_price w d (choice_on (row_of r n) d))

    paid_up_to : (m : ℕ) → over_slots days shifts skills (λ d s k. w d s k * first_nurses m d s k) ≤ sum_below m row_dual_prices
    unfolding paid_to
    paid_up_to zero = omega (arith, slots_none days shifts skills (λ d s k. w d s k * 0) (λ d s k. omega arith))
    paid_up_to (suc m) =
        let row : Row = row_of r m in
        let last : ℕ → ℕ → ℕ → ℕ = λ d. paid_to (choice_on row d) d in
        omega (
          arith,
          slots_both days shifts skills (λ d s k. w d s k * first_nurses (suc m) d s k) (λ d s k. w d s k * first_nurses m d s k) last
              (λ d s k. mul-add (w d s k) (first_nurses m d s k) (one_if (same_choice (choice_on row d) (Work (shift_at s) (skill_at k))))),
          paid_up_to m,
          sum_le days (λ d. sum_below shifts (λ s. sum_below skills (last d s))) (λ d. choice_dual_price w d (choice_on row d)) (λ d h. day_dual_price shifts skills d (choice_on row d)),
        )

    -- what all slots pay
    pub paid_is_earned : over_slots days shifts skills (λ d s k. w d s k * cover r d s k) ≤ sum_below (length r) row_dual_prices
    paid_is_earned =
        let same : over_slots days shifts skills (λ d s k. w d s k * first_nurses (length r) d s k) ≡ over_slots days shifts skills (λ d s k. w d s k * cover r d s k) =
        λ i. over_slots days shifts skills (λ d s k. w d s k * count_by_slot (λ (row : Row). same_choice (choice_on row d) (Work (shift_at s) (skill_at k))) r [] i) in
        omega (arith, same, paid_up_to (length r))

-- ---- by the dual prices a row costs what it costs, less what is earned

prices_split : (most n : ℕ) (p e q : ℕ → ℕ) → ((d : ℕ) → e d ≤ most) → ((d : ℕ) → p d ≡ (most - e d) + q d) → sum_below n p + sum_below n e ≡ sum_below n q + n * most
prices_split most zero p e q within each = omega arith
prices_split most (suc n) p e q within each = omega (arith, prices_split most n p e q within each, each n, within n, suc-mul n most)

dual_price_within : (scale : ℕ) (w : SlotPrices) → AreDualPrices scale w → (d : ℕ) (x : Choice) → choice_dual_price w d x ≤ scale * most_dual_price
dual_price_within scale w are d Off = omega arith
dual_price_within scale w are d (Work s k) = are d s.0 k.0

pub row_cost-choice_dual_price : (c : Meaning) (scale : ℕ) (w : SlotPrices) → AreDualPrices scale w → (n : ℕ) (row : Row)
    → row_cost_by c scale w n row + sum_below (length row) (λ d. choice_dual_price w d (choice_on row d)) ≡ scale * nurse_cost c n (days_of row) + length row * (scale * most_dual_price)
row_cost-choice_dual_price c scale w are n row =
    let asked : ℕ → ℕ = λ d. request_cost_on c n d (shift_of (choice_on row d)) in
    omega (
      arith,
      prices_split (scale * most_dual_price) (length row) (λ d. price_by c scale w n d (choice_on row d)) (λ d. choice_dual_price w d (choice_on row d)) (λ d. scale * asked d) (λ d. dual_price_within scale w are d (choice_on row d)) (λ d. refl),
      sum_times scale (length row) asked (λ d. scale * asked d) (λ d. refl),
      ap (λ k. scale * k) (requests_of_row c n row),
    )

-- ---- a roster that keeps the hard rules

met : (have need : ℕ) → not (nat_lt have need) ≡ true → need ≤ have
met have need e = grind (arith, e)

put_together : (scale p f paid cost room staffing pen : ℕ) → p ≤ scale * staffing + paid → f + paid ≤ scale * cost + room → pen ≡ staffing + cost → (p + f) - room ≤ scale * pen
put_together scale p f paid cost room staffing pen h k e = omega (arith, ap (λ all. scale * all) e)

-- parts that are no more than some whole points are no more when they are rounded up
points_below : (scale parts pen : ℕ) → 0 < scale → parts ≤ scale * pen → in_points scale parts ≤ pen
points_below scale parts pen some low =
    let below : in_points scale parts < pen + 1 = div_below (parts + (scale - 1)) scale (pen + 1) some (omega (arith, low, some)) in
    omega arith

-- a multiple of 5 that is not below a number isn't below the next multiple of 5 either
five_below : (b pen : ℕ) → b ≤ pen → pen % 5 ≡ 0 → 5 * ((b + 4) / 5) ≤ pen
five_below b pen h five = omega (arith, h, five)

pub rounded_below : (c : Meaning) (r : Rows) (b : ℕ) → b ≤ penalty c r → rounded_up c b ≤ penalty c r
rounded_below c r b h = go (c.keep % 5 == 0) refl
  where
    go : (fives : Bool) → (c.keep % 5 == 0) ≡ fives → (if fives then 5 * ((b + 4) / 5) else b) ≤ penalty c r
    go true e = five_below b (penalty c r) h (five_is c (eqb-true (c.keep % 5) 0 e) r)
    go false e = h

module _ (c : Meaning) (from : ℕ) (given : Rows) (scale : ℕ) (some : 0 < scale) (w : SlotPrices) (are : AreDualPrices scale w) (r : Rows) (fits : fits_case c r ≡ true) (keeps : keeps_hard c r ≡ true) (stays : FrozenDaysStay c from given r) where
  nurses : length r ≡ nurse_count c
  nurses = eqb-true (length r) (nurse_count c) (and_parts (length r == nurse_count c) (list_all (is_row_of c) r) fits).0

  minimum_met : (d s k : ℕ) → d < day_count c → s < shift_count c → k < skill_count c → minimum c d s k ≤ cover r d s k
  minimum_met d s k hd hs hk =
      met (cover r d s k) (minimum c d s k)
      (all_elim (skill_count c) (λ k. not (nat_lt (cover r d s k) (minimum c d s k)))
      (all_elim (shift_count c) (λ s. all_below (skill_count c) (λ k. not (nat_lt (cover r d s k) (minimum c d s k)))) (all_elim (day_count c) (λ d. meets c d (cover r d)) (two_rules c r keeps).0 d hd) s hs) k hk)

  -- the slots: the penalty for missing nurses, and the pay
  slots_below : slots_bound c scale w ≤ scale * staffing_cost c r + over_slots (day_count c) (shift_count c) (skill_count c) (λ d s k. w d s k * cover r d s k)
  slots_below =
      let D = day_count c in
      let S = shift_count c in
      let K = skill_count c in
      let missing : ℕ → ℕ → ℕ → ℕ = λ d s k. staffing_weight * (optimum c d s k - cover r d s k) in
      let in_parts : ℕ → ℕ → ℕ → ℕ = λ d s k. scale * missing d s k in
      let pay : ℕ → ℕ → ℕ → ℕ = λ d s k. w d s k * cover r d s k in
      omega (
        arith,
        slots_le D S K (slot_bound c scale w) (λ d s k. in_parts d s k + pay d s k)
            (λ d s k hd hs hk. slot_least scale (w d s k) (minimum c d s k) (optimum c d s k) (cover r d s k) (minimum_met d s k hd hs hk)),
        slots_both D S K (λ d s k. in_parts d s k + pay d s k) in_parts pay (λ d s k. refl),
        slots_times D S K scale missing in_parts (λ d s k. refl),
      )

  -- whatever each nurse's row costs at least
  module _ (bound : ℕ → ℕ) (least : (n : ℕ) → n < nurse_count c → bound n ≤ row_cost_by c scale w n (row_of r n)) where
    row_below : (n : ℕ) → n < nurse_count c → bound n + row_dual_prices w (day_count c) (shift_count c) (skill_count c) r n ≤ scale * nurse_cost c n (days_of_nurse r n) + day_count c * (scale * most_dual_price)
    row_below n inside =
        let days : length (row_of r n) ≡ day_count c = row-length c r n fits inside in
        let earns : sum_below (length (row_of r n)) (λ d. choice_dual_price w d (choice_on (row_of r n) d)) ≡ sum_below (day_count c) (λ d. choice_dual_price w d (choice_on (row_of r n) d)) =
        ap (λ m. sum_below m (λ d. choice_dual_price w d (choice_on (row_of r n) d))) days in
        let room : length (row_of r n) * (scale * most_dual_price) ≡ day_count c * (scale * most_dual_price) = ap (λ m. m * (scale * most_dual_price)) days in
        omega (arith, least n inside, row_cost-choice_dual_price c scale w are n (row_of r n), earns, room)

    rows_below : sum_below (nurse_count c) bound + sum_below (nurse_count c) (row_dual_prices w (day_count c) (shift_count c) (skill_count c) r)
        ≤ scale * sum_below (nurse_count c) (λ n. nurse_cost c n (days_of_nurse r n)) + nurse_count c * (day_count c * (scale * most_dual_price))
    rows_below =
        let N = nurse_count c in
        let earns = row_dual_prices w (day_count c) (shift_count c) (skill_count c) r in
        let cost : ℕ → ℕ = λ n. nurse_cost c n (days_of_nurse r n) in
        let room : ℕ = day_count c * (scale * most_dual_price) in
        omega (
          arith,
          sum_both N bound earns,
          sum_le N (λ n. bound n + earns n) (λ n. scale * cost n + room) row_below,
          sum_both N (λ n. scale * cost n) (λ n. room),
          sum_times scale N cost (λ n. scale * cost n) (λ n. refl),
          sum_same_number N room,
        )

    together_below : lagrangian_with c scale w bound ≤ scale * penalty c r
    together_below =
        let earns = row_dual_prices w (day_count c) (shift_count c) (skill_count c) r in
        let paid : over_slots (day_count c) (shift_count c) (skill_count c) (λ d s k. w d s k * cover r d s k) ≤ sum_below (nurse_count c) earns =
        omega (arith, paid_is_earned w (day_count c) (shift_count c) (skill_count c) r, ap (λ m. sum_below m earns) nurses) in
        put_together scale (slots_bound c scale w) (sum_below (nurse_count c) bound) (sum_below (nurse_count c) earns) (sum_below (nurse_count c) (λ n. nurse_cost c n (days_of_nurse r n))) (nurse_count c * (day_count c * (scale * most_dual_price))) (staffing_cost c r) (penalty c r)
        (omega (arith, slots_below, paid)) rows_below (penalty-parts c r)

    pub below : rounded_up c (in_points scale (lagrangian_with c scale w bound)) ≤ penalty c r
    below = rounded_below c r (in_points scale (lagrangian_with c scale w bound)) (points_below scale (lagrangian_with c scale w bound) (penalty c r) some together_below)

pub no_roster_below : (c : Meaning) (from : ℕ) (given : Rows) (scale : ℕ) (w : SlotPrices) → 0 < scale → AreDualPrices scale w → IsLowerBound c from given (bound_by c from given scale w)
unfolding bound_by
no_roster_below c from given scale w some are r fits keeps stays =
    below c from given scale some w are r fits keeps stays (row_bound c from given scale w)
    (λ n inside. least_below (row_cost_by c scale w n) (own_rows c from given n) (row_of r n) (among c from given r fits keeps stays n inside))
