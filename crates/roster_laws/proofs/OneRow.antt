-- What a roster with one nurse's row replaced costs.
use Rattle.std.proofs.Common.{◌≡◌, ◌∙◌, ◌+◌, ◌<◌, ℕ, zero, suc, ap, arith, refl, sym, [], length}
use Rattle.std.proofs.lemmas.List.{get_or-set_other, get_or-set_same, length-map}
use Rattle.std.proofs.lemmas.List.Sums.{sum_by-set}
use Rattle.std.proofs.Math.ListN.{get_or-map}
use Rattle.roster_instance.specs.declared.choice.Choice.TheVariants.{Off, Work}
use Rattle.roster_instance.specs.Choices.{days_of, same_choice, shift_of}
use Rattle.roster_instance.specs.Counting.{sum_below, one_if}
use Rattle.roster_instance.specs.Meaning.{Meaning, day_count, nurse_count, shift_at, skill_at}
use Rattle.roster_rules.specs.Penalties.{costs_of, free_run_cost, keep_cost, keep_cost_on, nurse_cost, off_request_cost, off_request_cost_on, over_nurses, own_cost, penalty, request_cost, request_cost_on, shift_run_cost, split_cost, staffing_cost, staffing_cost_by, totals_cost, weekends_cost, wish_cost, wish_cost_on, working_run_cost}
use Rattle.roster_instance.specs.Rosters.{Row, Rows, choice_on, cover, days_of_nurse, row_of, with_row}
use Rattle.roster_laws.specs.OneRow.{others, prices, rest_of}
use Rattle.roster_laws.specs.Staffing.{with_choice}
use Rattle.roster_rules.proofs.RunBounds.{sum_both}
use Rattle.roster_laws.proofs.Below.{sum_at}

-- ---- the penalty is that of the staffing plus each nurse's cost

regroup : (m : ℕ) (w s f u p t e v k : ℕ → ℕ) → sum_below m (λ n. w n + s n) + sum_below m f + sum_below m u + sum_below m p + sum_below m t + sum_below m e + sum_below m v + sum_below m k ≡ sum_below m (λ n. (w n + s n + f n + p n + t n + e n) + (u n + v n + k n))
regroup zero w s f u p t e v k = refl
regroup (suc m) w s f u p t e v k = omega (arith, regroup m w s f u p t e v k)

pub penalty-parts : (c : Meaning) (r : Rows) → penalty c r ≡ staffing_cost c r + over_nurses c r (nurse_cost c)
unfolding penalty costs_of own_cost
penalty-parts c r =
    omega (
      arith,
      regroup (nurse_count c) (λ n. working_run_cost c n (days_of_nurse r n)) (λ n. shift_run_cost c n (days_of_nurse r n)) (λ n. free_run_cost c n (days_of_nurse r n)) (λ n. off_request_cost c n (days_of_nurse r n))
          (λ n. split_cost c n (days_of_nurse r n)) (λ n. totals_cost c n (days_of_nurse r n)) (λ n. weekends_cost c n (days_of_nurse r n)) (λ n. wish_cost c n (days_of_nurse r n))
          (λ n. keep_cost c n (days_of_nurse r n)),
    )

-- ---- the requests of a row cost what those of its days cost together

pub requests_of_row : (c : Meaning) (n : ℕ) (row : Row) → request_cost c n (days_of row) ≡ sum_below (length row) (λ d. request_cost_on c n d (shift_of (choice_on row d)))
requests_of_row c n row =
    let off : ℕ → ℕ = λ d. off_request_cost_on c n d (shift_of (choice_on row d)) in
    let wished : ℕ → ℕ = λ d. wish_cost_on c n d (shift_of (choice_on row d)) in
    let kept : ℕ → ℕ = λ d. keep_cost_on c n d (shift_of (choice_on row d)) in
    let all : request_cost c n (days_of row) ≡ sum_below (length row) off + sum_below (length row) wished + sum_below (length row) kept =
    λ i. sum_below (length-map row shift_of i) (λ d. off_request_cost_on c n d (get_or-map shift_of row d Off i)) + sum_below (length-map row shift_of i) (λ d. wish_cost_on c n d (get_or-map shift_of row d Off i))
    + sum_below (length-map row shift_of i) (λ d. keep_cost_on c n d (get_or-map shift_of row d Off i)) in
    all ∙ ap (λ m. m + sum_below (length row) kept) (sym (sum_both (length row) off wished)) ∙ sym (sum_both (length row) (λ d. off d + wished d) kept)

-- ---- one row replaced

module _ (r : Rows) (n : ℕ) (within : n < length r) (row : Row) where
  pub cover-with_row : (d s k : ℕ) → cover (with_row r n row) d s k ≡ with_choice (others r n d) (choice_on row d) s k
  cover-with_row d s k =
      let one : Row → ℕ = λ own. one_if (same_choice (choice_on own d) (Work (shift_at s) (skill_at k))) in
      omega (arith, sum_by-set one r n row [] within, sum_by-set one r n [] [] within)

  pub own_row : row_of (with_row r n row) n ≡ row
  own_row = get_or-set_same r n row [] within

  pub other_row : (k : ℕ) → (k ≡ n → ⊥) → row_of (with_row r n row) k ≡ row_of r k
  other_row k e = get_or-set_other r n k row [] e

  nurses-with_row : (c : Meaning) → n < nurse_count c → over_nurses c (with_row r n row) (nurse_cost c) ≡ rest_of c r n + nurse_cost c n (days_of row)
  nurses-with_row c inside =
      sum_at (nurse_count c) n (λ k. nurse_cost c k (days_of_nurse (with_row r n row) k)) (λ k. nurse_cost c k (days_of_nurse r k)) inside (λ k e. ap (λ own. nurse_cost c k (days_of own)) (other_row k e))
      ∙ ap (λ own. rest_of c r n + nurse_cost c n (days_of own)) own_row

  pub prices-with_row : (c : Meaning) → length row ≡ day_count c → prices c r n row ≡ staffing_cost c (with_row r n row) + request_cost c n (days_of row)
  prices-with_row c days =
      let staff : ℕ → ℕ = λ d. staffing_cost_by c d (with_choice (others r n d) (choice_on row d)) in
      let asked : ℕ → ℕ = λ d. request_cost_on c n d (shift_of (choice_on row d)) in
      let staffed : staffing_cost c (with_row r n row) ≡ sum_below (length row) staff =
      λ i. sum_below (sym days i) (λ d. staffing_cost_by c d (λ s k. cover-with_row d s k i)) in
      omega (arith, sum_both (length row) staff asked, staffed, requests_of_row c n row)

  pub penalty-with_row : (c : Meaning) → n < nurse_count c → length row ≡ day_count c → penalty c (with_row r n row) ≡ rest_of c r n + own_cost c n (days_of row) + prices c r n row
  penalty-with_row c inside days = omega (arith, penalty-parts c (with_row r n row), nurses-with_row c inside, prices-with_row c days)
