-- The best row of a nurse is the one that the search from state to state gives.
use Rattle.std.proofs.Common.{◌≡◌, ◌∙◌, ◌+◌, ◌<◌, ◌&&◌, ℕ, true, ap, arith, refl, sym, List, [], length, Option, Some, None, IsSome}
use Rattle.std.specs.Prelude.{option_map}
use Rattle.std.proofs.lemmas.Bool.{true≢false}
use Rattle.roster_rules.specs.HardRules.{keeps_hard}
use Rattle.roster_instance.specs.Meaning.{Meaning, nurse_count}
use Rattle.roster_rules.specs.Prefix.{due}
use Rattle.roster_instance.specs.Rosters.{Row, Rows, fits_case, with_row}
use Rattle.roster_rules.specs.AllowedRows.{IsBestRow, allowed_rows, best_row, keeps_frozen_days, penalty_with}
use Rattle.roster_rules.proofs.FirstLeast.{found}
use Rattle.roster_instance.proofs.RosterFacts.{has_row}
use Rattle.roster_laws.specs.OneRow.{is_offered, is_offered_row, price, rest_of}
use Rattle.roster_laws.proofs.Keeps.{allowed-with_row}
use Rattle.roster_laws.proofs.OneRow.{penalty-with_row}
use Rattle.roster_laws.proofs.Allowed.{best_exists}
use Rattle.roster_offers.specs.declared.offer.Offer.{Offer}
use Rattle.roster_offers.specs.Cheapest.{Priced, raised}
use Rattle.roster_offers.specs.Offers.{best_by_states, choices_of}
use Rattle.roster_offers.proofs.Cheapest.{cost_or, thing_or}
use Rattle.roster_offers.proofs.ByOffers.{found_by_offers}

module _ (c : Meaning) (from : ℕ) (r : Rows) (fits : fits_case c r ≡ true) (keeps : keeps_hard c r ≡ true) (n : ℕ) (inside : n < nurse_count c) where
  within : n < length r
  within = has_row c r n fits inside

  -- what the other nurses' rows cost, and what the start owes
  abbrev base : ℕ
  base = rest_of c r n + due c n []

  with_penalty : Row → ℕ × Row
  with_penalty row = (penalty_with c r n row, row)

  best_is : option_map with_penalty (best_row c from r n) ≡ raised base choices_of (best_by_states c from r n)
  unfolding with_penalty
  best_is =
      found_by_offers c n (is_offered c from r n) (price c r n) (rest_of c r n) (penalty_with c r n) (λ row. keeps_hard c (with_row r n row) && keeps_frozen_days c from r n row)
      (λ row days. allowed-with_row c r keeps n within inside row from ∙ ap (is_offered_row c from r n row) (sym days))
      (λ row days. omega (arith, penalty-with_row r n within row c inside days))

  -- ---- read off

  some_is : (o : Option Row) (p : Priced (List Offer)) → option_map with_penalty o ≡ raised base choices_of p → IsSome o → IsSome p
  some_is None p e some = elim (true≢false (sym some)) [ ]
  some_is (Some row) None e some = absurd cc
  some_is (Some row) (Some best) e some = refl

  pub best_some : IsSome (best_by_states c from r n)
  best_some = some_is (best_row c from r n) (best_by_states c from r n) best_is (best_exists c from r n fits keeps inside)

  read : (o : Option Row) (cost : ℕ) (offers : List Offer) → option_map with_penalty o ≡ Some (base + cost, choices_of offers) → (o ≡ Some (choices_of offers)) × (penalty_with c r n (choices_of offers) ≡ base + cost)
  unfolding with_penalty
  read None cost offers e = absurd cc
  read (Some row) cost offers e =
      let same : row ≡ choices_of offers = ap (thing_or []) e in
      let so_much : penalty_with c r n row ≡ base + cost = ap (cost_or 0) e in
      (ap Some same, ap (penalty_with c r n) (sym same) ∙ so_much)

  module _ (cost : ℕ) (offers : List Offer) (is : best_by_states c from r n ≡ Some (cost, offers)) where
    both : (best_row c from r n ≡ Some (choices_of offers)) × (penalty_with c r n (choices_of offers) ≡ base + cost)
    both = read (best_row c from r n) cost offers (best_is ∙ ap (raised base choices_of) is)

    pub is_best : IsBestRow c from r n (choices_of offers)
    is_best = found (penalty_with c r n) (allowed_rows c from r n) (choices_of offers) both.0

    pub penalty_is : penalty_with c r n (choices_of offers) ≡ rest_of c r n + due c n [] + cost
    penalty_is = both.1
