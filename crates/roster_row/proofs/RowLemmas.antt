-- Rows whose choices are among the offers of their days.
use Rattle.std.proofs.Common.{◌≡◌, ◌∙◌, ◌<◌, ◌&&◌, ◌==◌, ℕ, true, not, ap, ap₂, arith, sym, List, Contains, filter, length, map}
use Rattle.std.specs.List.{list_all}
use Rattle.std.proofs.lemmas.Bool.{and_from, and_parts, eq-eqb}
use Rattle.std.proofs.lemmas.List.{length-map}
use Rattle.std.proofs.lemmas.List.Elements.{All-from_get_or, All-get_or}
use Rattle.std.proofs.lemmas.List.Sums.{AllPass-from_list_all, list_all-from_AllPass}
use Rattle.std.proofs.Math.ListN.{get_or-map}
use Rattle.roster_instance.specs.declared.choice.Choice.{Choice}
use Rattle.roster_instance.specs.declared.choice.Choice.TheVariants.{Off}
use Rattle.roster_instance.specs.Choices.{all_choices, days_of}
use Rattle.roster_instance.specs.Counting.{all_below}
use Rattle.roster_instance.specs.Meaning.{Meaning, day_count, nurse_count}
use Rattle.roster_instance.specs.Rosters.{Row, Rows, choice_on, is_choice_of, is_row_of, with_row}
use Rattle.roster_rules.specs.AllowedRows.{keeps_frozen_days, row_keeps}
use Rattle.roster_rules.specs.HardRules.{breaks_succession, keeps_hard, keeps_successions}
use Rattle.roster_laws.specs.OneRow.{is_offered, is_offered_row}
use Rattle.roster_laws.proofs.Below.{all_both, all_elim, all_true}
use Rattle.roster_laws.proofs.Keeps.{allowed-with_row}
use Rattle.roster_laws.proofs.Allowed.{kept_is_member, kept_passes, member_is_kept}
use Rattle.roster_laws.proofs.AllRows.{choice_is_member, member_is_choice}
use Rattle.roster_offers.specs.declared.offer.Offer.{Offer}
use Rattle.roster_offers.specs.Offers.{offer_of, offers_of}
use Rattle.roster_row.specs.Offers.{IsOffered}

-- ---- the offers of a day are the choices that are offered

contains_map : {X Y : Type 0} (f : X → Y) (xs : List X) (x : X) → Contains xs x → Contains (map f xs) (f x)
contains_map f xs x (k, within, is) = (k, omega (arith, within, length-map xs f), get_or-map f xs k x ∙ ap f is)

module _ (c : Meaning) (from : ℕ) (r : Rows) (n d : ℕ) (choice : Choice) where
  offered_is_among : is_choice_of c choice ≡ true → is_offered c from r n d choice ≡ true → Contains (offers_of c from r n d) (offer_of c r n d choice)
  offered_is_among of_case offered =
      contains_map (offer_of c r n d) (filter (is_offered c from r n d) (all_choices c)) choice (member_is_kept (is_offered c from r n d) (all_choices c) choice (choice_is_member c choice of_case) offered)

  among_is_kept : Contains (offers_of c from r n d) (offer_of c r n d choice) → Contains (filter (is_offered c from r n d) (all_choices c)) choice
  among_is_kept (k, within, is) =
      let kept : List Choice = filter (is_offered c from r n d) (all_choices c) in
      (k, omega (arith, within, length-map kept (offer_of c r n d)), ap (λ (offer : Offer). offer.choice) (sym (get_or-map (offer_of c r n d) kept k choice) ∙ is))

  among_is_offered : Contains (offers_of c from r n d) (offer_of c r n d choice) → is_offered c from r n d choice ≡ true
  among_is_offered among = kept_passes (is_offered c from r n d) (all_choices c) choice (among_is_kept among)

  among_is_of_case : Contains (offers_of c from r n d) (offer_of c r n d choice) → is_choice_of c choice ≡ true
  among_is_of_case among = member_is_choice c choice (kept_is_member (is_offered c from r n d) (all_choices c) choice (among_is_kept among))

-- ---- rows

module _ (c : Meaning) (from : ℕ) (r : Rows) (n : ℕ) where
  module _ (keeps : keeps_hard c r ≡ true) (within : n < length r) (inside : n < nurse_count c) (row : Row) (days : length row ≡ day_count c) where
    by_parts : (keeps_hard c (with_row r n row) && keeps_frozen_days c from r n row) ≡ (all_below (length row) (λ d. is_offered c from r n d (choice_on row d)) && keeps_successions c n (days_of row) (length row))
    by_parts =
        allowed-with_row c r keeps n within inside row from
        ∙ ap (is_offered_row c from r n row) (sym days)
        ∙ all_both (length row) (λ d. is_offered c from r n d (choice_on row d)) (λ d. not (breaks_succession c n (days_of row) d))

    pub keeps-of_offers : (row_keeps c r n row ≡ true) × (keeps_frozen_days c from r n row ≡ true) → IsOffered c from r n row × (keeps_successions c n (days_of row) (length row) ≡ true)
    keeps-of_offers (kept, stays) =
        let both = and_parts (is_row_of c row) (keeps_hard c (with_row r n row)) kept in
        let parts = and_parts (all_below (length row) (λ d. is_offered c from r n d (choice_on row d))) (keeps_successions c n (days_of row) (length row)) (sym by_parts ∙ and_from (keeps_hard c (with_row r n row)) (keeps_frozen_days c from r n row) both.1 stays) in
        let of_case = AllPass-from_list_all (is_choice_of c) row (and_parts (length row == day_count c) (list_all (is_choice_of c) row) both.0).1 in
        (λ d h. offered_is_among c from r n d (choice_on row d) (All-get_or (λ choice. is_choice_of c choice ≡ true) row d Off h of_case) (all_elim (length row) (λ e. is_offered c from r n e (choice_on row e)) parts.0 d h), parts.1)

    pub of_offers-keeps : IsOffered c from r n row × (keeps_successions c n (days_of row) (length row) ≡ true) → (row_keeps c r n row ≡ true) × (keeps_frozen_days c from r n row ≡ true)
    of_offers-keeps (offered, successions) =
        let of_case = list_all-from_AllPass (is_choice_of c) row (All-from_get_or (λ choice. is_choice_of c choice ≡ true) row Off (λ d h. among_is_of_case c from r n d (choice_on row d) (offered d h))) in
        let is_row = and_from (length row == day_count c) (list_all (is_choice_of c) row) (eq-eqb (length row) (day_count c) days) of_case in
        let all : all_below (length row) (λ d. is_offered c from r n d (choice_on row d)) ≡ true = all_true (length row) (λ d. is_offered c from r n d (choice_on row d)) (λ d h. among_is_offered c from r n d (choice_on row d) (offered d h)) in
        let both = and_parts (keeps_hard c (with_row r n row)) (keeps_frozen_days c from r n row) (by_parts ∙ ap₂ (λ a b. a && b) all successions) in
        (and_from (is_row_of c row) (keeps_hard c (with_row r n row)) is_row both.0, both.1)
