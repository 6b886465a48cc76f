-- Whatever the prices of a kick are, the row that it finds is allowed.
use Rattle.std.proofs.Common.{◌≡◌, ◌∙◌, ◌<◌, ◌≤◌, ◌+◌, ◌&&◌, ◌||◌, ◌/◌, ◌⊎◌, ℕ, Bool, true, false, not, max, inl, inr, ap, arith, get_or, map, refl, subst, sym, List, [], ◌∷◌, length, nat_lt, if◌then◌else◌, Contains, IsSome}
use Rattle.std.specs.List.{All, filter}
use Rattle.std.proofs.lemmas.Bool.{and_from, and_parts, cases_Bool, lt-ltb, ltb-true}
use Rattle.std.proofs.lemmas.List.{length-map, set-get_or}
use Rattle.std.proofs.lemmas.Simd.{map-map}
use Rattle.std.proofs.lemmas.List.Elements.{All-contains_itself, All-filter, All-get_or, All-map, All-weaker, Contains-append_right}
use Rattle.arrayvec.specs.ArrayVec.{ArrayVec}
use Rattle.roster_instance.specs.declared.choice.Choice.{Choice}
use Rattle.roster_instance.specs.Choices.{all_choices, all_rows, days_of, same_choice}
use Rattle.roster_instance.specs.Limits.{most_shifts, most_skills}
use Rattle.roster_instance.specs.Small.{HasSmallNumbers}
use Rattle.roster_instance.specs.Meaning.{Meaning, day_count, is_fixed, nurse_at, nurse_count, shift_count, skill_count}
use Rattle.roster_instance.specs.Rosters.{Row, Rows, choice_on, fits_case, is_choice_of, is_row_of, row_of, with_row}
use Rattle.roster_rules.specs.AllowedRows.{is_frozen, keeps_frozen_day, keeps_frozen_days, row_keeps}
use Rattle.roster_rules.specs.HardRules.{breaks_succession, is_able, is_here, keeps_hard, may_take}
use Rattle.roster_instance.proofs.RosterFacts.{has_row, row_fits}
use Rattle.roster_laws.specs.OneRow.{is_offered, is_open, is_open_row}
use Rattle.roster_laws.specs.Staffing.{meets, with_choice}
use Rattle.roster_laws.specs.OneRow.{others}
use Rattle.roster_laws.proofs.Allowed.{kept_is_member, kept_passes, member_is_kept, present_stays}
use Rattle.roster_laws.proofs.AllRows.{choice_is_member, member_is_choice, member_is_row, row_is_member}
use Rattle.roster_laws.proofs.Below.{all_elim, all_true}
use Rattle.roster_laws.proofs.Keeps.{allowed-with_row, keeps_hard-with_row}
use Rattle.roster_offers.specs.declared.offer.Offer.{Offer}
use Rattle.roster_offers.specs.Cheapest.{Priced}
use Rattle.roster_offers.specs.Offers.{choices_of, offer_at, offer_of, offered_row_by, offered_rows, offers_by, offers_of}
use Rattle.roster_offers.specs.Lists.{AreDayOffers, AreOffers, IsFound, IsOfferOf, best_over, offers_on}
use Rattle.roster_offers.proofs.ByOffers.{offered_least, offered_some}
use Rattle.roster_offers.proofs.ByShift.{by_shift_all, by_shift_fewer, by_shift_some}
use Rattle.roster_offers.proofs.OfferLaws.{offers_few_of, offers_of_case, present_of_case}
use Rattle.roster_offers.proofs.ListLaws.{best_over_same}
use Rattle.roster_polish.specs.Kicks.{AreKickOffers, from_on, kick_offered, kick_offers, kick_price, price_from}
use Rattle.roster_polish.specs.declared.offers.Kick.{Kick}

-- an offer at the price of a kick
abbrev pub priced_in : Meaning → ℕ → Kick → ℕ → Offer → Offer
priced_in c n kick d offer = record { choice = offer.choice; price = price_from c n kick d offer.choice offer.price }

-- what the kick offers: all of these
pub priced_all : (c : Meaning) (r : Rows) (n : ℕ) (kick : Kick) (d : ℕ) (those : List Offer) → those ≡ offers_of c (from_on kick d) r n d → map (priced_in c n kick d) those ≡ offers_by c (kick_offered c r n kick) (kick_price c r n kick) d
priced_all c r n kick d those is = ap (map (priced_in c n kick d)) is ∙ map-map (priced_in c n kick d) (offer_of c r n d) (filter (kick_offered c r n kick d) (all_choices c))

-- each is a choice of the case
pub open_of_case : (c : Meaning) (r : Rows) (n from d : ℕ) (those : List Offer) (position : ℕ) (e : Offer) → HasSmallNumbers c → shift_count c ≤ most_shifts → skill_count c ≤ most_skills → those ≡ offers_of c from r n d → position < length those → is_choice_of c (get_or those position e).choice ≡ true
open_of_case c r n from d those position e small shifts skills is within =
    (All-get_or (IsOfferOf c) those position e within (subst (All (IsOfferOf c)) (sym is) (offers_of_case c from r n d small shifts skills))).choice

still_frozen : (before before_later stays : Bool) → (before ≡ true → before_later ≡ true) → (before || stays) ≡ true → (before_later || stays) ≡ true
still_frozen true before_later stays later e = ap (λ b. b || stays) (later refl)
still_frozen false true stays later e = refl
still_frozen false false stays later e = e

-- what is frozen before a week is frozen before a later one
frozen_later : (c : Meaning) (from later : ℕ) (r : Rows) (n d : ℕ) (x : Choice) → from ≤ later → keeps_frozen_day c later r n d x ≡ true → keeps_frozen_day c from r n d x ≡ true
frozen_later c from later r n d x below keeps = go (cases_Bool (is_frozen c from n d))
  where
    go : (is_frozen c from n d ≡ true) ⊎ (is_frozen c from n d ≡ false) → keeps_frozen_day c from r n d x ≡ true
    go (inr thawed) = ap (λ b. not b || same_choice x (choice_on (row_of r n) d)) thawed
    go (inl frozen) =
        let later_too : is_frozen c later n d ≡ true = still_frozen (nat_lt (d / 7) from) (nat_lt (d / 7) later) (is_fixed c n d) (λ before. lt-ltb (d / 7) later (omega (arith, ltb-true (d / 7) from before, below))) frozen in
        ap (λ b. not b || same_choice x (choice_on (row_of r n) d)) (frozen ∙ sym later_too) ∙ keeps

from_below : (a b : ℕ) (within : Bool) → a ≤ (if within then a else max a b)
from_below a b true = omega arith
from_below a b false = omega arith

module _ (c : Meaning) (r : Rows) (n : ℕ) (kick : Kick) where
  abbrev pub offered : ℕ → Choice → Bool
  offered = kick_offered c r n kick

  abbrev pub priced : ℕ → Choice → ℕ
  priced = kick_price c r n kick

  abbrev pub best : Priced (List Offer)
  best = best_over c n (kick_offers c r n kick)

  -- ---- the offers of a day

  able : (d : ℕ) (x : Choice) → offered d x ≡ true → is_able (nurse_at c n).skills x ≡ true
  able d x is =
      (and_parts (is_able (nurse_at c n).skills x) (is_here c n d x)
      (and_parts (may_take c n d x) (meets c d (with_choice (others r n d) x)) (and_parts (is_open c r n d x) (keeps_frozen_day c (from_on kick d) r n d x) is).0).0).0

  priced_of_case : (d : ℕ) → All (IsOfferOf c) (offers_by c offered priced d)
  priced_of_case d =
      All-map (IsOfferOf c) (offer_at priced d) (filter (offered d) (all_choices c))
      (All-filter (offered d) (λ x. IsOfferOf c (offer_at priced d x)) (all_choices c)
      (All-weaker (Contains (all_choices c)) (λ x. IsOfferOf c (offer_at priced d x)) (λ x member. record { choice = member_is_choice c x member; price = omega arith }) (all_choices c) (All-contains_itself (all_choices c))))

  module _ (fits : fits_case c r ≡ true) (keeps : keeps_hard c r ≡ true) (inside : n < nurse_count c) where
    -- ---- the present row is offered

    abbrev own : Row
    own = row_of r n

    open_row : is_open_row c r n own (day_count c) ≡ true
    open_row = sym (keeps_hard-with_row c r keeps n (has_row c r n fits inside) inside own) ∙ ap (keeps_hard c) (set-get_or r n []) ∙ keeps

    offered_own : (d : ℕ) → d < day_count c → (offered d (choice_on own d) && not (breaks_succession c n (days_of own) d)) ≡ true
    offered_own d day =
        let parts = and_parts (is_open c r n d (choice_on own d)) (not (breaks_succession c n (days_of own) d)) (all_elim (day_count c) (λ k. is_open c r n k (choice_on own k) && not (breaks_succession c n (days_of own) k)) open_row d day) in
        let stays = all_elim (day_count c) (λ k. keeps_frozen_day c (from_on kick d) r n k (choice_on own k)) (present_stays c (from_on kick d) r n) d day in
        and_from (offered d (choice_on own d)) (not (breaks_succession c n (days_of own) d)) (and_from (is_open c r n d (choice_on own d)) (keeps_frozen_day c (from_on kick d) r n d (choice_on own d)) parts.0 stays) parts.1

    own_row_offered : offered_row_by c n offered own (day_count c) ≡ true
    own_row_offered = all_true (day_count c) (λ d. offered d (choice_on own d) && not (breaks_succession c n (days_of own) d)) offered_own

    some : IsSome best
    some =
        offered_some c n offered priced own
        (member_is_kept (λ row. offered_row_by c n offered row (day_count c)) (all_rows (all_choices c) (day_count c)) own (row_is_member c own (row_fits c r n fits inside)) own_row_offered)

    offers_some : (d : ℕ) → d < day_count c → 0 < length (offers_by c offered priced d)
    offers_some d day =
        let is = (and_parts (offered d (choice_on own d)) (not (breaks_succession c n (days_of own) d)) (offered_own d day)).0 in
        let member = member_is_kept (offered d) (all_choices c) (choice_on own d) (choice_is_member c (choice_on own d) (present_of_case c kick.from r n d fits keeps inside day)) is in
        omega (arith, member.1, length-map (filter (offered d) (all_choices c)) (offer_at priced d))

    day_offers : (d : ℕ) → d < day_count c → AreDayOffers c n (kick_offers c r n kick d)
    day_offers d day = record {
      of_case = by_shift_all (IsOfferOf c) (offers_by c offered priced d) (priced_of_case d);
      some = by_shift_some (offers_by c offered priced d) (offers_some d day);
      few = omega (arith, by_shift_fewer (offers_by c offered priced d), offers_few_of c n offered priced able d);
    }

    -- ---- a row that is found

    module _ (row : Row) (member : Contains (offered_rows c n offered) row) where
      abbrev rows : List Row
      rows = all_rows (all_choices c) (day_count c)

      keeps_offers : Row → Bool
      keeps_offers other = offered_row_by c n offered other (day_count c)

      is_row : is_row_of c row ≡ true
      unfolding keeps_offers
      is_row = member_is_row c row (kept_is_member keeps_offers rows row member)

      passes : offered_row_by c n offered row (day_count c) ≡ true
      unfolding keeps_offers
      passes = kept_passes keeps_offers rows row member

      each : (d : ℕ) → d < day_count c → (is_offered c kick.from r n d (choice_on row d) && not (breaks_succession c n (days_of row) d)) ≡ true
      each d day =
          let x : Choice = choice_on row d in
          let parts = and_parts (offered d x) (not (breaks_succession c n (days_of row) d)) (all_elim (day_count c) (λ k. offered k (choice_on row k) && not (breaks_succession c n (days_of row) k)) passes d day) in
          let can = and_parts (is_open c r n d x) (keeps_frozen_day c (from_on kick d) r n d x) parts.0 in
          let stays = frozen_later c kick.from (from_on kick d) r n d x (from_below kick.from (d / 7 + 1) (not (nat_lt (d / 7) kick.first) && nat_lt (d / 7) kick.last)) can.1 in
          and_from (is_offered c kick.from r n d x) (not (breaks_succession c n (days_of row) d)) (and_from (is_open c r n d x) (keeps_frozen_day c kick.from r n d x) can.0 stays) parts.1

      both : (keeps_hard c (with_row r n row) && keeps_frozen_days c kick.from r n row) ≡ true
      both =
          allowed-with_row c r keeps n (has_row c r n fits inside) inside row kick.from
          ∙ all_true (day_count c) (λ d. is_offered c kick.from r n d (choice_on row d) && not (breaks_succession c n (days_of row) d)) each

      both_kept : (keeps_hard c (with_row r n row) ≡ true) × (keeps_frozen_days c kick.from r n row ≡ true)
      both_kept = and_parts (keeps_hard c (with_row r n row)) (keeps_frozen_days c kick.from r n row) both

      member_keeps : row_keeps c r n row ≡ true
      member_keeps = and_from (is_row_of c row) (keeps_hard c (with_row r n row)) is_row both_kept.0

      member_stays : keeps_frozen_days c kick.from r n row ≡ true
      member_stays = both_kept.1

    -- ---- over these offers of all days

    module _ (table : List (ArrayVec Offer)) (are : AreKickOffers c r n kick table) where
      pub can_search : AreOffers c n table
      can_search = record { days = omega (arith, are.days); each = λ day within. subst (AreDayOffers c n) (sym (are.each day within)) (day_offers day within) }

      same_best : best_over c n (offers_on table) ≡ best
      same_best = best_over_same c n (offers_on table) (kick_offers c r n kick) are.each

      pub some_found : IsSome (best_over c n (offers_on table))
      some_found = subst (λ (p : Priced (List Offer)). IsSome p) (sym same_best) some

      module _ (cost : ℕ) (row : Row) (found : IsFound (best_over c n (offers_on table)) cost row) where
        is_member : Contains (offered_rows c n offered) row
        is_member =
            let least = offered_least c n offered priced cost found.offers (sym same_best ∙ found.is) in
            let among : Contains (offered_rows c n offered) (choices_of found.offers) = rw least.split (Contains-append_right least.before (choices_of found.offers ∷ least.after) (choices_of found.offers) (0, omega arith, refl)) in
            subst (Contains (offered_rows c n offered)) (sym found.row_is) among

        pub found_keeps : row_keeps c r n row ≡ true
        found_keeps = member_keeps row is_member

        pub found_stays : keeps_frozen_days c kick.from r n row ≡ true
        found_stays = member_stays row is_member
