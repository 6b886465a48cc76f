-- Whatever is offered at whatever prices: the first of the cheapest rows is the one that the search from
-- state to state gives, at each scale and in whole points.
use Rattle.std.proofs.Common.{◌≡◌, ◌∙◌, ◌+◌, ◌*◌, ◌<◌, ℕ, Bool, true, false, ap, arith, refl, subst, sym, List, [], ◌∷◌, Contains, filter, length, Option, Some, None, IsSome, if◌then◌else◌}
use Rattle.std.specs.Prelude.{option_map}
use Rattle.roster_instance.specs.declared.choice.Choice.{Choice}
use Rattle.roster_rules.specs.AllowedRows.{IsFirstLeast, first_least}
use Rattle.roster_rules.proofs.FirstLeast.{found}
use Rattle.std.proofs.lemmas.Bool.{true≢false}
use Rattle.roster_instance.specs.Choices.{all_choices, all_rows, days_of}
use Rattle.roster_instance.specs.Meaning.{Meaning, day_count}
use Rattle.roster_rules.specs.Penalties.{own_cost}
use Rattle.roster_rules.specs.Prefix.{due, summary_of}
use Rattle.roster_instance.specs.Rosters.{Row}
use Rattle.roster_offers.specs.Cheapest.{Priced, cheapest, plus, raised, with_cost}
use Rattle.roster_offers.specs.ByStates.{cost_from, rows_from}
use Rattle.roster_offers.specs.Finds.{best_offered, best_offered_at}
use Rattle.roster_offers.specs.Offers.{best_of_offers, best_of_offers_at, cheapest_by_shift, choices_of, end_cost_at, offer_at, offer_transition_at, offered_row_by, offered_rows, offers_by, row_cost_at, row_cost_in, row_prices_by}
use Rattle.roster_offers.specs.Lists.{best_over_at}
use Rattle.roster_offers.specs.declared.offer.Offer.{Offer}
use Rattle.roster_offers.proofs.AtOne.{best_one, best_over_one, once}
use Rattle.roster_offers.proofs.Cheapest.{cheapest-first_least, cheapest_raised, cost-raised, cost_or, plus_twice, raised_twice, thing_or}
use Rattle.roster_offers.proofs.ByShift.{best_by_shift_at}
use Rattle.roster_offers.proofs.RowsByStates.{best_of_kept, cheapest_row, rows-all_rows, rows_agree}
use Rattle.roster_offers.proofs.RowCosts.{choice_transition, costs_by_states, owed}

plus_where : (b : Bool) (k a w : ℕ) → w ≡ k + a → (if b then Some w else None) ≡ plus k (if b then Some a else None)
plus_where true k a w e = ap Some e
plus_where false k a w e = refl

module _
    (c : Meaning) (n scale : ℕ) (offered : ℕ → Choice → Bool) (price : ℕ → Choice → ℕ)
    (before : ℕ) (cost : Row → ℕ) (keep : Row → Bool)
    (kept : (row : Row) → length row ≡ day_count c → keep row ≡ offered_row_by c n offered row (length row))
    (costs : (row : Row) → length row ≡ day_count c → cost row ≡ before + row_cost_in c n scale price row) where
  abbrev along : Row → Option ℕ
  along = cost_from (choice_transition c n scale offered price) (end_cost_at c n scale) 0 (summary_of c n [])

  abbrev base : ℕ
  base = before + scale * due c n []

  abbrev cost_if_kept : Row → Option ℕ
  cost_if_kept row = if keep row then Some (cost row) else None

  -- no day has a price yet
  nothing_owed : owed c n scale offered price [] ≡ scale * due c n []
  nothing_owed = omega arith

  -- the cost of a row that is kept is what it costs from state to state, plus what the start owes
  row_agrees : (row : Row) → length row ≡ day_count c → cost_if_kept row ≡ plus base (along row)
  row_agrees row days =
      (λ i. if kept row days i then Some (cost row) else None)
      ∙ plus_where (offered_row_by c n offered row (length row)) before (row_cost_in c n scale price row) (cost row) (costs row days)
      ∙ ap (plus before) (costs_by_states c n scale offered price row [] ∙ ap (λ k. plus k (along row)) nothing_owed)
      ∙ sym (plus_twice before (scale * due c n []) (along row))

  pub found_at : option_map (λ row. (cost row, row)) (first_least cost (filter keep (all_rows (all_choices c) (day_count c)))) ≡ raised base choices_of (best_of_offers_at c n scale (offers_by c offered price) (day_count c) 0 (summary_of c n []))
  found_at =
      let items : ℕ → List _ = λ d. all_choices c in
      let D : ℕ = day_count c in
      sym (cheapest-first_least cost keep (all_rows (all_choices c) D))
      ∙ ap (cheapest (λ row. with_cost row (cost_if_kept row))) (rows-all_rows (all_choices c) D 0)
      ∙ rows_agree items D 0 (λ row. with_cost row (cost_if_kept row)) (λ row. raised base (λ own. own) (with_cost row (along row))) (λ row days. ap (with_cost row) (row_agrees row days) ∙ cost-raised base (λ own. own) row (along row))
      ∙ cheapest_raised base (λ own. own) (λ row. with_cost row (along row)) (rows_from items D 0)
      ∙ ap (raised base (λ own. own)) (cheapest_row items (choice_transition c n scale offered price) (end_cost_at c n scale) D 0 (summary_of c n []) ∙ best_of_kept offered (offer_at price) (λ offer. offer.choice) (λ d x. refl) items (offer_transition_at c n scale) (end_cost_at c n scale) D 0 (summary_of c n []))
      ∙ raised_twice base 0 (λ own. own) choices_of (best_of_offers_at c n scale (offers_by c offered price) D 0 (summary_of c n []))
      ∙ ap (λ k. raised k choices_of (best_of_offers_at c n scale (offers_by c offered price) D 0 (summary_of c n []))) no_more
    where
      no_more : base + 0 ≡ base
      no_more = omega arith

-- the same in whole points
module _
    (c : Meaning) (n : ℕ) (offered : ℕ → Choice → Bool) (price : ℕ → Choice → ℕ)
    (before : ℕ) (cost : Row → ℕ) (keep : Row → Bool)
    (kept : (row : Row) → length row ≡ day_count c → keep row ≡ offered_row_by c n offered row (length row))
    (costs : (row : Row) → length row ≡ day_count c → cost row ≡ before + row_cost_at c n price row) where
  pub found_by_offers : option_map (λ row. (cost row, row)) (first_least cost (filter keep (all_rows (all_choices c) (day_count c)))) ≡ raised (before + due c n []) choices_of (best_of_offers c n (offers_by c offered price) (day_count c) 0 (summary_of c n []))
  found_by_offers =
      found_at c n 1 offered price before cost keep kept (λ row days. costs row days ∙ ap (λ k. before + (k + row_prices_by price row)) (sym (once (own_cost c n (days_of row)))))
      ∙ (λ i. raised (before + once (due c n []) i) choices_of (best_one c n (offers_by c offered price) (day_count c) 0 (summary_of c n []) i))

module _ (c : Meaning) (n scale : ℕ) (offered : ℕ → Choice → Bool) (price : ℕ → Choice → ℕ) where
  abbrev cost : Row → ℕ
  cost = row_cost_in c n scale price

  with_its_cost : Row → ℕ × Row
  with_its_cost row = (cost row, row)

  -- one offer for each shift is enough
  abbrev best : Priced (List Offer)
  best = best_over_at c n scale (λ d. cheapest_by_shift (offers_by c offered price d))

  best_is : option_map with_its_cost (first_least cost (offered_rows c n offered)) ≡ raised (scale * due c n []) choices_of best
  unfolding with_its_cost
  best_is =
      found_at c n scale offered price 0 cost (λ row. offered_row_by c n offered row (day_count c)) (λ row days. ap (offered_row_by c n offered row) (sym days)) (λ row days. omega arith)
      ∙ ap (λ k. raised k choices_of (best_over_at c n scale (offers_by c offered price))) nothing_before
      ∙ ap (raised (scale * due c n []) choices_of) (sym (best_by_shift_at c n scale (offers_by c offered price) (day_count c) 0 (summary_of c n [])))
    where
      nothing_before : 0 + scale * due c n [] ≡ scale * due c n []
      nothing_before = omega arith

  read : (o : Option Row) (k : ℕ) (offers : List Offer) → option_map with_its_cost o ≡ Some (scale * due c n [] + k, choices_of offers) → (o ≡ Some (choices_of offers)) × (cost (choices_of offers) ≡ scale * due c n [] + k)
  unfolding with_its_cost
  read None k offers e = absurd cc
  read (Some row) k offers e =
      let same : row ≡ choices_of offers = ap (thing_or []) e in
      let so_much : cost row ≡ scale * due c n [] + k = ap (cost_or 0) e in
      (ap Some same, ap cost (sym same) ∙ so_much)

  module _ (k : ℕ) (offers : List Offer) (is : best ≡ Some (k, offers)) where
    both : (first_least cost (offered_rows c n offered) ≡ Some (choices_of offers)) × (cost (choices_of offers) ≡ scale * due c n [] + k)
    both = read (first_least cost (offered_rows c n offered)) k offers (best_is ∙ ap (raised (scale * due c n []) choices_of) is)

    pub offered_least_at : IsFirstLeast cost (offered_rows c n offered) (choices_of offers)
    offered_least_at = found cost (offered_rows c n offered) (choices_of offers) both.0

    pub offered_cost_at : cost (choices_of offers) ≡ scale * due c n [] + k
    offered_cost_at = both.1

  -- ---- there is one if a row is offered

  some_is : (o : Option Row) (p : Priced (List Offer)) → option_map with_its_cost o ≡ raised (scale * due c n []) choices_of p → IsSome o → IsSome p
  some_is None p e some = elim (true≢false (sym some)) [ ]
  some_is (Some row) None e some = absurd cc
  some_is (Some row) (Some p) e some = refl

  least_some : (rows : List Row) → 0 < length rows → IsSome (first_least cost rows)
  least_some [] some = absurd (omega (arith, some))
  least_some (row ∷ rows) some = refl

  pub offered_some_at : (row : Row) → Contains (offered_rows c n offered) row → IsSome best
  offered_some_at row (k, within, is) = some_is (first_least cost (offered_rows c n offered)) best best_is (least_some (offered_rows c n offered) (omega (arith, within)))

-- ---- in whole points

module _ (c : Meaning) (n : ℕ) (offered : ℕ → Choice → Bool) (price : ℕ → Choice → ℕ) where
  costs_one : row_cost_in c n 1 price ≡ row_cost_at c n price
  costs_one = λ i row. once (own_cost c n (days_of row)) i + row_prices_by price row

  best_offered_one : best_offered_at c n 1 offered price ≡ best_offered c n offered price
  best_offered_one = best_over_one c n (λ d. cheapest_by_shift (offers_by c offered price d))

  module _ (k : ℕ) (offers : List Offer) (is : best_offered c n offered price ≡ Some (k, offers)) where
    pub offered_least : IsFirstLeast (row_cost_at c n price) (offered_rows c n offered) (choices_of offers)
    offered_least = subst (λ (cost : Row → ℕ). IsFirstLeast cost (offered_rows c n offered) (choices_of offers)) costs_one (offered_least_at c n 1 offered price k offers (best_offered_one ∙ is))

    pub offered_cost : row_cost_at c n price (choices_of offers) ≡ due c n [] + k
    offered_cost =
        sym (ap (λ (cost : Row → ℕ). cost (choices_of offers)) costs_one)
        ∙ offered_cost_at c n 1 offered price k offers (best_offered_one ∙ is)
        ∙ ap (λ m. m + k) (once (due c n []))

  pub offered_some : (row : Row) → Contains (offered_rows c n offered) row → IsSome (best_offered c n offered price)
  offered_some row offered_row = subst (λ (p : Priced (List Offer)). IsSome p) best_offered_one (offered_some_at c n 1 offered price row offered_row)
