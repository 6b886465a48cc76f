-- The figures of a nurse with a row, the capacity of a workspace, and lists of all who may take the
-- assignment.
use Rattle.std.proofs.Common.{get_or, ◌≡◌, ◌∙◌, ◌+◌, ◌-◌, ◌<◌, ◌≤◌, ◌==◌, ℕ, true, ap, arith, sym, List, [], ◌++◌, length, Option}
use Rattle.std.specs.List.{flat_map, range_with_len}
use Rattle.std.specs.Option.{option_to_list}
use Rattle.roster_bundle.proofs.Ranges.{flat_map-range_more}
use Rattle.std.proofs.lemmas.Bool.{and_parts, eqb-true}
use Rattle.std.proofs.lemmas.List.{get_or_read, set-get_or, set-set}
use Rattle.roster_instance.proofs.RosterFacts.{row-length}
use Rattle.roster_instance.specs.Rosters.{Row, Rows, fits_case, is_row_of, row_of, with_row}
use Rattle.roster_instance.specs.Counting.{sum_below}
use Rattle.roster_instance.specs.Limits.{most_shifts, most_skills}
use Rattle.roster_instance.specs.Meaning.{Meaning, day_count, minimum, nurse_count, shift_count, skill_count}
use Rattle.roster_rules.specs.Covers.{IsTable, number_at}
use Rattle.roster_rules.proofs.RunSums.{sum_same}
use Rattle.roster_laws.specs.Staffing.{shortfall}
use Rattle.arrayvec.specs.ArrayVec.{ArrayVec}
use Rattle.roster_offers.specs.declared.offer.Offer.{Offer}
use Rattle.roster_offers.specs.Lists.{offers_on}
use Rattle.roster_who.specs.declared.taker.Taker.{Taker}

-- a day's list in a table of offers
pub read_at : (xs : List (ArrayVec Offer)) (i : ℕ) (x : ArrayVec Offer) → i < length xs → x ≡ get_or xs i x → x.items ≡ offers_on xs i
read_at xs i x inside is = ap (λ (o : ArrayVec Offer). o.items) (get_or_read xs i x inside is (record { items = [] }))

-- the shortfall of a day, by its table
pub shortfall_by_table : (c : Meaning) (d : ℕ) (table : List ℕ) (have : ℕ → ℕ → ℕ) → shift_count c ≤ most_shifts → skill_count c ≤ most_skills → IsTable have table
    → sum_below (shift_count c) (λ s. sum_below (skill_count c) (λ k. minimum c d s k - number_at table s k)) ≡ shortfall c (minimum c d) have
shortfall_by_table c d table have shifts skills is =
    sum_same (shift_count c) (λ s. sum_below (skill_count c) (λ k. minimum c d s k - number_at table s k)) (λ s. sum_below (skill_count c) (λ k. minimum c d s k - have s k))
    (λ s h. sum_same (skill_count c) (λ k. minimum c d s k - number_at table s k) (λ k. minimum c d s k - have s k) (λ k l. ap (λ m. minimum c d s k - m) (is s k (omega (arith, h, shifts)) (omega (arith, l, skills)))))

-- one nurse more in the list
pub one_more : (of : ℕ → Option Taker) (gathered new : List Taker) (n : ℕ) (o : Option Taker) → gathered ≡ flat_map (λ m. option_to_list (of m)) (range_with_len 0 n) → o ≡ of n → new ≡ gathered ++ option_to_list o
    → new ≡ flat_map (λ m. option_to_list (of m)) (range_with_len 0 (n + 1))
one_more of gathered new n o so_far is more =
    more ∙ (λ i. so_far i ++ option_to_list (is i)) ∙ sym (flat_map-range_more (λ m. option_to_list (of m)) n)

-- ---- a row put in and taken out again

module _ (c : Meaning) (r : Rows) (n : ℕ) (row : Row) (fits : fits_case c r ≡ true) (inside : n < nurse_count c) (of_case : is_row_of c row ≡ true) where
  pub as_long : length row ≡ length (row_of r n)
  as_long = eqb-true (length row) (day_count c) (and_parts (length row == day_count c) _ of_case).0 ∙ sym (row-length c r n fits inside)

  pub put_back : with_row (with_row r n row) n (row_of r n) ≡ r
  put_back = set-set r n row (row_of r n) ∙ set-get_or r n []
