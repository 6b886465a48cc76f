-- The best row in a workspace: that it is low and allowed, and what its label says.
use Rattle.std.proofs.Common.{◌≡◌, ◌∙◌, ◌+◌, ◌<◌, ◌≤◌, ℕ, true, ap, arith, refl, subst, sym, List, [], ◌∷◌, Contains, IsSome, None, Some}
use Rattle.std.proofs.lemmas.Bool.{and_parts, true≢false}
use Rattle.std.proofs.lemmas.List.Elements.{Contains-append_right}
use Rattle.arrayvec.specs.ArrayVec.{ArrayVec}
use Rattle.roster_instance.specs.Limits.{most_nurses, most_shifts, most_skills, most_weeks}
use Rattle.roster_instance.specs.Meaning.{Meaning, nurse_count, shift_count, skill_count, week_count}
use Rattle.roster_instance.specs.Rosters.{Row, Rows, fits_case, is_row_of, with_row}
use Rattle.roster_instance.specs.Small.{HasSmallNumbers}
use Rattle.roster_rules.specs.AllowedRows.{IsBestRow, penalty_with, row_keeps}
use Rattle.roster_rules.specs.HardRules.{keeps_hard}
use Rattle.roster_rules.specs.Penalties.{penalty}
use Rattle.roster_rules.specs.Prefix.{due}
use Rattle.roster_rules.specs.PenaltyBounds.{penalty_limit}
use Rattle.roster_rules.proofs.Bounds.{penalty-within}
use Rattle.roster_rules.proofs.RowFits.{fits-with_row}
use Rattle.roster_laws.specs.OneRow.{rest_of}
use Rattle.roster_laws.proofs.Allowed.{allowed_keeps}
use Rattle.roster_offers.specs.declared.offer.Offer.{Offer}
use Rattle.roster_offers.specs.Cheapest.{Priced}
use Rattle.roster_offers.specs.Offers.{best_by_states, choices_of}
use Rattle.roster_offers.specs.Lists.{IsFound, best_over, offers_on}
use Rattle.roster_offers.proofs.Best.{best_some, is_best, penalty_is}
use Rattle.roster_row.specs.Searches.{AreShiftOffers}
use Rattle.roster_row.proofs.OffersLaws.{best_is}

-- ---- the best row

pub best_keeps : (c : Meaning) (from : ℕ) (r : Rows) (n : ℕ) (row : Row) → IsBestRow c from r n row → row_keeps c r n row ≡ true
best_keeps c from r n row best =
    (allowed_keeps c from r n row (subst (λ xs. Contains xs row) (sym best.split) (Contains-append_right best.before (row ∷ best.after) row (0, omega arith, refl)))).0

-- what a case keeps to: its limits
pub record KeepsLimits (c : Meaning) : Type 0 where
  pub small : HasSmallNumbers c
  pub weeks : week_count c ≤ most_weeks
  pub shifts : shift_count c ≤ most_shifts
  pub skills : skill_count c ≤ most_skills
  pub nurses : nurse_count c ≤ most_nurses

module _ (c : Meaning) (from : ℕ) (r : Rows) (limits : KeepsLimits c) (fits : fits_case c r ≡ true) where
  pub best_within : (n : ℕ) (row : Row) → IsBestRow c from r n row → penalty_with c r n row < penalty_limit
  unfolding penalty
  best_within n row best =
      penalty-within c (with_row r n row) limits.small limits.shifts limits.skills limits.weeks limits.nurses
      (fits-with_row c r n row fits (and_parts (is_row_of c row) (keeps_hard c (with_row r n row)) (best_keeps c from r n row best)).0)

  -- the penalty is what the search adds up
  pub sum_within : (keeps : keeps_hard c r ≡ true) (n : ℕ) (inside : n < nurse_count c) (cost : ℕ) (offers : List Offer) → best_by_states c from r n ≡ Some (cost, offers) → rest_of c r n + due c n [] + cost < penalty_limit
  sum_within keeps n inside cost offers is =
      omega (arith, penalty_is c from r fits keeps n inside cost offers is, best_within n (choices_of offers) (is_best c from r fits keeps n inside cost offers is))

  -- what the others' rows cost, and what the start owes
  pub base_within : (keeps : keeps_hard c r ≡ true) (n : ℕ) (inside : n < nurse_count c) → rest_of c r n + due c n [] < penalty_limit
  base_within keeps n inside = go (best_by_states c from r n) refl (best_some c from r fits keeps n inside)
    where
      go : (o : Priced (List Offer)) → best_by_states c from r n ≡ o → IsSome o → rest_of c r n + due c n [] < penalty_limit
      go None is some = elim (true≢false (sym some)) [ ]
      go (Some best) is some = omega (arith, sum_within keeps n inside best.0 best.1 is)

-- ---- what a search over the nurse's offers finds

module _ (c : Meaning) (from : ℕ) (r : Rows) (fits : fits_case c r ≡ true) (keeps : keeps_hard c r ≡ true) (n : ℕ) (inside : n < nurse_count c) (offers : List (ArrayVec Offer)) (are : AreShiftOffers c from r n offers) (cost : ℕ) (row : Row) (found : IsFound (best_over c n (offers_on offers)) cost row) where
  pub found_is : best_by_states c from r n ≡ Some (cost, found.offers)
  found_is = sym (best_is c from r n offers are) ∙ found.is

  pub found_best : IsBestRow c from r n row
  found_best = subst (IsBestRow c from r n) (sym found.row_is) (is_best c from r fits keeps n inside cost found.offers found_is)

  pub found_penalty : penalty_with c r n row ≡ rest_of c r n + due c n [] + cost
  found_penalty = ap (penalty_with c r n) found.row_is ∙ penalty_is c from r fits keeps n inside cost found.offers found_is
