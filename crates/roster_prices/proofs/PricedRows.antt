-- The least that a nurse costs at prices is what the search finds.
use Rattle.std.proofs.Common.{◌≡◌, ◌∙◌, ◌+◌, ◌*◌, ◌<◌, ◌≤◌, ◌&&◌, ◌==◌, ℕ, Bool, true, not, ap, arith, refl, subst, sym, List, [], length, Contains, IsSome, Option, Some, None}
use Rattle.std.specs.Prelude.{option_map}
use Rattle.std.specs.List.{All, filter, list_all}
use Rattle.std.specs.Option.{option_map_or}
use Rattle.std.proofs.lemmas.Bool.{and_parts, eqb-true, true≢false}
use Rattle.std.proofs.lemmas.List.{length-map}
use Rattle.std.proofs.lemmas.List.Elements.{All-contains_itself, All-filter, All-get_or, All-map, All-weaker}
use Rattle.std.proofs.lemmas.List.Sums.{AllPass-from_list_all}
use Rattle.arrayvec.specs.ArrayVec.{ArrayVec}
use Rattle.roster_instance.specs.declared.choice.Choice.{Choice}
use Rattle.roster_instance.specs.declared.choice.Choice.TheVariants.{Off}
use Rattle.roster_rules.specs.AllowedRows.{keeps_frozen_day, keeps_frozen_days}
use Rattle.roster_instance.specs.Choices.{all_choices, all_rows, days_of}
use Rattle.roster_rules.specs.HardRules.{breaks_succession, is_able, is_able_on, is_here, is_here_on, keeps_successions, may_take}
use Rattle.roster_instance.specs.Limits.{most_keep}
use Rattle.roster_instance.specs.Meaning.{Meaning, day_count, nurse_at}
use Rattle.roster_rules.specs.Prefix.{due, summary_of}
use Rattle.roster_instance.specs.Rosters.{Row, Rows, choice_on, is_choice_of}
use Rattle.roster_laws.proofs.AllRows.{choice_is_member, member_is_choice, row_is_member}
use Rattle.roster_laws.proofs.Allowed.{member_is_kept, some_least}
use Rattle.roster_laws.proofs.Keeps.{last_two}
use Rattle.roster_laws.proofs.Below.{all_both, all_elim, all_same}
use Rattle.roster_offers.specs.declared.offer.Offer.{Offer}
use Rattle.roster_offers.specs.Cheapest.{Priced, raised}
use Rattle.roster_offers.specs.Offers.{choices_of, offer_at, offered_row_by, row_cost_in}
use Rattle.roster_offers.specs.Lists.{AreDayOffersAt, AreOffersAt, IsFound, IsOfferAt, best_over_at, most_price_at, offers_on}
use Rattle.roster_offers.proofs.ByOffers.{found_at}
use Rattle.roster_offers.proofs.ByShift.{best_by_shift_at, by_shift_all, by_shift_fewer, by_shift_some}
use Rattle.roster_offers.proofs.Cheapest.{cost_or, thing_or}
use Rattle.roster_offers.proofs.OfferLaws.{offers_few_of}
use Rattle.roster_offers.proofs.ListLaws.{best_over_same_at}
use Rattle.roster_prices.specs.Days.{ArePricedOffers, can_do, priced_offers, shift_offers}
use Rattle.roster_prices.specs.LowerBounds.{HasRow, can_work, cheapest_cost, least_row, own_rows}

module _ (c : Meaning) (from : ℕ) (given : Rows) (scale : ℕ) (price : ℕ → Choice → ℕ) (n : ℕ) (low : c.keep ≤ most_keep → (d : ℕ) (x : Choice) → price d x ≤ most_price_at scale) where
  abbrev can : ℕ → Choice → Bool
  can = can_do c from given n

  -- ---- the offers of a day

  offers_of_case : c.keep ≤ most_keep → (d : ℕ) → All (IsOfferAt c scale) (priced_offers c from given price n d)
  offers_of_case few d =
      All-map (IsOfferAt c scale) (offer_at price d) (filter (can d) (all_choices c))
      (All-filter (can d) (λ x. IsOfferAt c scale (offer_at price d x)) (all_choices c)
      (All-weaker (Contains (all_choices c)) (λ x. IsOfferAt c scale (offer_at price d x)) (λ x member. record { choice = member_is_choice c x member; price = low few d x }) (all_choices c) (All-contains_itself (all_choices c))))

  -- ---- the rows

  kept : (row : Row) → length row ≡ day_count c → can_work c from given n row ≡ offered_row_by c n can row (length row)
  kept row days =
      let D = day_count c in
      let able : ℕ → Bool = λ d. may_take c n d (choice_on row d) in
      let follows : ℕ → Bool = λ d. not (breaks_succession c n (days_of row) d) in
      let stays : ℕ → Bool = λ d. keeps_frozen_day c from given n d (choice_on row d) in
      ap (λ b. (b && keeps_successions c n (days_of row) D) && keeps_frozen_days c from given n row) (sym (all_both D (is_able_on c n row) (is_here_on c n row)))
      ∙ ap (λ b. b && keeps_frozen_days c from given n row) (sym (all_both D able follows))
      ∙ sym (all_both D (λ d. able d && follows d) stays)
      ∙ all_same D (λ d. (able d && follows d) && stays d) (λ d. (able d && stays d) && follows d) (λ d h. last_two (able d) (follows d) (stays d))
      ∙ sym (ap (offered_row_by c n can row) days)

  with_its_cost : Row → ℕ × Row
  with_its_cost row = (row_cost_in c n scale price row, row)

  abbrev pub best : Priced (List Offer)
  best = best_over_at c n scale (shift_offers c from given price n)

  best_is : option_map with_its_cost (least_row c from given scale price n) ≡ raised (0 + scale * due c n []) choices_of best
  unfolding with_its_cost
  best_is =
      found_at c n scale can price 0 (row_cost_in c n scale price) (can_work c from given n) kept (λ row days. omega arith)
      ∙ ap (raised (0 + scale * due c n []) choices_of) (sym (best_by_shift_at c n scale (priced_offers c from given price n) (day_count c) 0 (summary_of c n [])))

  some_is : (o : Option Row) (p : Priced (List Offer)) → option_map with_its_cost o ≡ raised (0 + scale * due c n []) choices_of p → IsSome o → IsSome p
  some_is None p e some = elim (true≢false (sym some)) [ ]
  some_is (Some row) None e some = absurd cc
  some_is (Some row) (Some p) e some = refl

  read : (o : Option Row) (k : ℕ) (offers : List Offer) → option_map with_its_cost o ≡ raised (0 + scale * due c n []) choices_of (Some (k, offers)) → (scale * due c n [] + k ≡ option_map_or (row_cost_in c n scale price) o 0) × (o ≡ Some (choices_of offers))
  unfolding with_its_cost
  read None k offers e = absurd cc
  read (Some row) k offers e =
      let cost : row_cost_in c n scale price row ≡ 0 + scale * due c n [] + k = ap (cost_or 0) e in
      (omega (arith, cost), ap Some (ap (thing_or []) e))

  module _ (own : HasRow c from given n) where
    days_of_own : length own.row ≡ day_count c
    days_of_own = eqb-true (length own.row) (day_count c) (and_parts (length own.row == day_count c) (list_all (is_choice_of c) own.row) own.fits).0

    some : IsSome best
    some =
        some_is (least_row c from given scale price n) best best_is
        (some_least (row_cost_in c n scale price) (own_rows c from given n) own.row (member_is_kept (can_work c from given n) (all_rows (all_choices c) (day_count c)) own.row (row_is_member c own.row own.fits) own.works))

    -- the choice of that row on a day
    own_of_case : (d : ℕ) → d < day_count c → is_choice_of c (choice_on own.row d) ≡ true
    own_of_case d within =
        All-get_or (λ x. is_choice_of c x ≡ true) own.row d Off (omega (arith, within, days_of_own))
        (AllPass-from_list_all (is_choice_of c) own.row (and_parts (length own.row == day_count c) (list_all (is_choice_of c) own.row) own.fits).1)

    -- it may follow the one before
    pub goes_on : (d : ℕ) → d < day_count c → (can d (choice_on own.row d) && not (breaks_succession c n (days_of own.row) d)) ≡ true
    goes_on d within =
        let all : offered_row_by c n can own.row (length own.row) ≡ true = sym (kept own.row days_of_own) ∙ own.works in
        all_elim (length own.row) (λ k. can k (choice_on own.row k) && not (breaks_succession c n (days_of own.row) k)) all d (omega (arith, within, days_of_own))

    can_do_own : (d : ℕ) → d < day_count c → can d (choice_on own.row d) ≡ true
    can_do_own d within =
        let all : offered_row_by c n can own.row (length own.row) ≡ true = sym (kept own.row days_of_own) ∙ own.works in
        (and_parts _ _ (all_elim (length own.row) (λ k. can k (choice_on own.row k) && not (breaks_succession c n (days_of own.row) k)) all d (omega (arith, within, days_of_own)))).0

    offers_some : (d : ℕ) → d < day_count c → 0 < length (priced_offers c from given price n d)
    offers_some d within =
        let member = member_is_kept (can d) (all_choices c) (choice_on own.row d) (choice_is_member c (choice_on own.row d) (own_of_case d within)) (can_do_own d within) in
        omega (arith, member.1, length-map (filter (can d) (all_choices c)) (offer_at price d))

    pub day_offers : c.keep ≤ most_keep → (d : ℕ) → d < day_count c → AreDayOffersAt c n scale (shift_offers c from given price n d)
    day_offers few d within = record {
      of_case = by_shift_all (IsOfferAt c scale) (priced_offers c from given price n d) (offers_of_case few d);
      some = by_shift_some (priced_offers c from given price n d) (offers_some d within);
      few = omega (arith, by_shift_fewer (priced_offers c from given price n d), offers_few_of c n can price (λ e x is. (and_parts (is_able (nurse_at c n).skills x) (is_here c n e x) (and_parts (may_take c n e x) (keeps_frozen_day c from given n e x) is).0).0) d);
    }

    -- ---- over these offers of all days

    module _ (table : List (ArrayVec Offer)) (are : ArePricedOffers c from given price n table) where
      pub can_search_priced : c.keep ≤ most_keep → AreOffersAt c n scale table
      can_search_priced few = record { days = omega (arith, are.days); each = λ day within. subst (AreDayOffersAt c n scale) (sym (are.each day within)) (day_offers few day within) }

      same_best : best_over_at c n scale (offers_on table) ≡ best
      same_best = best_over_same_at c n (offers_on table) (shift_offers c from given price n) are.each scale

      pub some_priced : IsSome (best_over_at c n scale (offers_on table))
      some_priced = subst (λ (p : Priced (List Offer)). IsSome p) (sym same_best) some

      module _ (cost : ℕ) (row : Row) (found : IsFound (best_over_at c n scale (offers_on table)) cost row) where
        both : (scale * due c n [] + cost ≡ cheapest_cost c from given scale price n) × (least_row c from given scale price n ≡ Some (choices_of found.offers))
        both = read (least_row c from given scale price n) cost found.offers (best_is ∙ ap (raised (0 + scale * due c n []) choices_of) (sym same_best ∙ found.is))

        pub cost_is : scale * due c n [] + cost ≡ cheapest_cost c from given scale price n
        cost_is = both.0

        pub row_is : least_row c from given scale price n ≡ Some row
        row_is = both.1 ∙ ap Some (sym found.row_is)
