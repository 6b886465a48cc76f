-- The search over a nurse's offers finds the first of her cheapest rows that have the assignment, or nothing
-- if she has no such row.
use Rattle.std.proofs.Common.{◌≡◌, ◌∙◌, ◌+◌, ◌-◌, ◌*◌, ◌<◌, ◌≤◌, ◌&&◌, ◌||◌, ◌==◌, ℕ, zero, suc, Bool, true, false, not, ap, ap₂, arith, refl, subst, sym, List, [], ◌∷◌, length, Contains, IsSome, Option, Some, None, filter, if◌then◌else◌, is_some, nat_lt}
use Rattle.std.specs.Prelude.{option_map}
use Rattle.std.specs.List.{All}
use Rattle.std.proofs.Common.{eq-eqb}
use Rattle.std.proofs.lemmas.Bool.{and_from, and_parts, eqb-true, ne_eqb, true≢false}
use Rattle.std.proofs.lemmas.List.Elements.{All-contains_itself, All-filter, All-map, All-weaker, Contains-append_right}
use Rattle.roster_laws.proofs.Allowed.{kept_is_member}
use Rattle.arrayvec.specs.ArrayVec.{ArrayVec}
use Rattle.roster_instance.specs.declared.choice.Choice.{Choice}
use Rattle.roster_instance.specs.declared.choice.Choice.TheVariants.{Off, Work}
use Rattle.roster_instance.specs.declared.choice.Shift.{Shift}
use Rattle.roster_instance.specs.declared.choice.Skill.{Skill}
use Rattle.roster_instance.specs.Choices.{all_choices, all_rows, days_of, shift_of}
use Rattle.roster_instance.specs.Counting.{all_below, one_if, sum_below}
use Rattle.roster_instance.specs.Limits.{most_keep, most_shifts}
use Rattle.roster_instance.specs.Meaning.{Meaning, day_count, last_shift, minimum, nurse_at, nurse_count, optimum, past_of, shift_count, skill_count}
use Rattle.roster_instance.specs.Rosters.{Row, Rows, choice_on, fits_case, is_choice_of, is_row_of, with_row}
use Rattle.roster_instance.proofs.RosterFacts.{has_row}
use Rattle.roster_instance.specs.Sizes.{choice_count}
use Rattle.roster_rules.specs.AllowedRows.{cheaper_of, first_least, keeps_frozen_day, penalty_with}
use Rattle.roster_rules.specs.HardRules.{breaks_succession, is_able, is_here, may_take}
use Rattle.roster_rules.specs.Penalties.{own_cost, request_cost_on}
use Rattle.roster_rules.specs.Prefix.{due, summary_of}
use Rattle.roster_rules.specs.Weights.{staffing_weight}
use Rattle.roster_rules.proofs.Bounds.{request_on-within}
use Rattle.roster_rules.proofs.RunBounds.{sum_both}
use Rattle.roster_rules.proofs.RunSums.{sum_same}
use Rattle.roster_laws.specs.OneRow.{others, price, prices, rest_of}
use Rattle.roster_laws.specs.Staffing.{shortfall, with_choice}
use Rattle.roster_laws.proofs.AllRows.{member_is_choice, member_is_row}
use Rattle.roster_laws.proofs.Below.{all_at, all_both, all_same}
use Rattle.roster_laws.proofs.Shortfall.{shortfall-off, shortfall-work, no_less, staffing-shortfall}
use Rattle.roster_laws.proofs.OneRow.{cover-with_row, penalty-with_row}
use Rattle.roster_offers.specs.declared.offer.Offer.{Offer}
use Rattle.roster_offers.specs.Cheapest.{Priced, raised}
use Rattle.roster_offers.specs.Offers.{choices_of, offer_at, offered_row_by, row_cost_at}
use Rattle.roster_offers.specs.Lists.{AreDayOffers, AreOffers, IsFound, IsOfferOf, best_over, most_price, offers_on}
use Rattle.roster_offers.proofs.ByOffers.{found_by_offers}
use Rattle.roster_offers.proofs.ByShift.{best_by_shift, by_shift_all, by_shift_fewer}
use Rattle.roster_offers.proofs.Cheapest.{thing_or}
use Rattle.roster_offers.proofs.ListLaws.{best_over_same}
use Rattle.roster_offers.proofs.OfferLaws.{offers_few_of}
use Rattle.roster_prices.specs.Days.{can_do}
use Rattle.roster_who.specs.declared.asked.Asked.{Asked}
use Rattle.roster_who.specs.Offers.{AreTakingOffers, can_take, gain_at, gain_of, gain_with, is_open_for, keeps_slots, most_gain, shift_taking_offers, taking_offers, taking_price}
use Rattle.roster_who.specs.Ways.{last_index, leads_on}
use Rattle.roster_who.specs.Who.{cost_with, is_asked, is_taking, missed, missed_weight, taking_row, taking_rows}
use Rattle.roster_who.proofs.RowLemmas.{short_is, works}
use Rattle.roster_who.proofs.WayLemmas.{first_last, leads_some, some_where_leads}

-- ---- adding a number to all costs doesn't change which row is the first of the cheapest

lt_more : (k a b : ℕ) → nat_lt (k + a) (k + b) ≡ nat_lt a b
lt_more k a b = grind arith

cheaper_more : {A : Type 0} (k : ℕ) (f : A → ℕ) (x : A) (o : Option A) → cheaper_of (λ y. k + f y) x o ≡ cheaper_of f x o
cheaper_more k f x None = refl
cheaper_more k f x (Some y) = ap (λ b. if b then y else x) (lt_more k (f y) (f x))

least_more : {A : Type 0} (k : ℕ) (f : A → ℕ) (xs : List A) → first_least (λ y. k + f y) xs ≡ first_least f xs
least_more k f [] = refl
least_more k f (x ∷ xs) = ap (λ o. Some (cheaper_of (λ y. k + f y) x o)) (least_more k f xs) ∙ ap Some (cheaper_more k f x (first_least f xs))

-- the cheaper of an item and the answer for the others is one of them
least_from : {A : Type 0} (cost : A → ℕ) (x : A) (xs : List A) (o : Option A) (y : A) → ((z : A) → o ≡ Some z → Contains xs z) → cheaper_of cost x o ≡ y → Contains (x ∷ xs) y
least_from cost x xs None y later e = (0, omega arith, e)
least_from cost x xs (Some z) y later e = go (nat_lt (cost z) (cost x)) e
  where
    go : (b : Bool) → (if b then z else x) ≡ y → Contains (x ∷ xs) y
    go true same = Contains-append_right (x ∷ []) xs y (subst (Contains xs) same (later z refl))
    go false same = (0, omega arith, same)

least_member : {A : Type 0} (cost : A → ℕ) (xs : List A) (y : A) → first_least cost xs ≡ Some y → Contains xs y
least_member cost [] y e = absurd cc
least_member cost (x ∷ xs) y e = least_from cost x xs (first_least cost xs) y (least_member cost xs) (cc)

-- ---- sums

scaled : (m n : ℕ) (f : ℕ → ℕ) → sum_below n (λ k. m * f k) ≡ m * sum_below n f
scaled m zero f = omega arith
scaled m (suc n) f = grind (arith, scaled m n f)

same_number : (n m : ℕ) → sum_below n (λ k. m) ≡ n * m
same_number zero m = omega arith
same_number (suc n) m = grind (arith, same_number n m)

-- ---- the gain of one more nurse

-- a shift or a skill that isn't the case's is in no slot of the case
nowhere : (c : Meaning) (s : Shift) (k : Skill) → is_choice_of c (Work s k) ≡ false → (t l : ℕ) → t < shift_count c → l < skill_count c → ((s.0 == t) && (k.0 == l)) ≡ false
nowhere c s k outside t l shift_in skill_in = go ((s.0 == t) && (k.0 == l)) refl
  where
    go : (b : Bool) → ((s.0 == t) && (k.0 == l)) ≡ b → b ≡ false
    go false e = refl
    go true e =
        let parts = and_parts (s.0 == t) (k.0 == l) e in
        let shift : s.0 ≡ t = eqb-true s.0 t parts.0 in
        let skill : k.0 ≡ l = eqb-true k.0 l parts.1 in
        let inside : (nat_lt s.0 (shift_count c) && nat_lt k.0 (skill_count c)) ≡ true = ap₂ (λ a b. nat_lt a (shift_count c) && nat_lt b (skill_count c)) shift skill ∙ and_from (nat_lt t (shift_count c)) (nat_lt l (skill_count c)) (grind (arith, shift_in)) (grind (arith, skill_in)) in
        absurd (true≢false (sym inside ∙ outside))

shortfall-nowhere : (c : Meaning) (want have : ℕ → ℕ → ℕ) (s : Shift) (k : Skill) → is_choice_of c (Work s k) ≡ false → shortfall c want (with_choice have (Work s k)) ≡ shortfall c want have
shortfall-nowhere c want have s k outside =
    sum_same (shift_count c) _ (λ t. sum_below (skill_count c) (λ l. want t l - have t l))
    (λ t h. sum_same (skill_count c) _ (λ l. want t l - have t l) (λ l g. no_less (want t l) (have t l) ((s.0 == t) && (k.0 == l)) (nowhere c s k outside t l h g)))

-- the gain is what the shortfall becomes less by
balance : (mw mo mg lw lo rw ro bw bo q : ℕ) → mw ≡ missed_weight → mo ≡ staffing_weight → mg ≡ most_gain → bw ≤ 1 → bo ≤ 1 → lw + bw ≡ rw → lo + bo ≡ ro
    → ((missed_weight * lw + (staffing_weight * lo + q)) + most_gain) ≡ (missed_weight * rw + staffing_weight * ro) + ((most_gain - (missed_weight * bw + staffing_weight * bo)) + q)
balance mw mo mg lw lo rw ro bw bo q a b d e f g h = omega arith

one_within : (b : Bool) → one_if b ≤ 1
one_within true = omega arith
one_within false = omega arith

module _ (c : Meaning) (r : Rows) (n d : ℕ) where
  abbrev have : ℕ → ℕ → ℕ
  have = others r n d

  abbrev shortfall_cost : ℕ
  shortfall_cost = missed_weight * shortfall c (minimum c d) have + staffing_weight * shortfall c (optimum c d) have

  abbrev shortfall_with : Choice → ℕ
  shortfall_with x = missed_weight * shortfall c (minimum c d) (with_choice have x) + (staffing_weight * shortfall c (optimum c d) (with_choice have x) + request_cost_on c n d (shift_of x))

  unchanged : (x : Choice) → ((want : ℕ → ℕ → ℕ) → shortfall c want (with_choice have x) ≡ shortfall c want have) → gain_of c r n d x ≡ 0 → shortfall_with x + most_gain ≡ shortfall_cost + taking_price c r n d x
  unchanged x same none = omega (arith, same (minimum c d), same (optimum c d), none)

  -- the shortfall with a choice, plus the most that a nurse can gain, is the shortfall without it, plus the
  -- price
  pub price_is : (x : Choice) → shortfall_with x + most_gain ≡ shortfall_cost + taking_price c r n d x
  price_is Off = unchanged Off (λ want. shortfall-off c want have) refl
  price_is (Work s k) = go (is_choice_of c (Work s k)) refl
    where
      go : (b : Bool) → is_choice_of c (Work s k) ≡ b → shortfall_with (Work s k) + most_gain ≡ shortfall_cost + taking_price c r n d (Work s k)
      go false outside = unchanged (Work s k) (λ want. shortfall-nowhere c want have s k outside) (ap (λ b. if b then gain_with c r n d (Work s k) else 0) outside)
      go true inside =
          let parts = and_parts (nat_lt s.0 (shift_count c)) (nat_lt k.0 (skill_count c)) inside in
          let shift_in : s.0 < shift_count c = grind (arith, parts) in
          let skill_in : k.0 < skill_count c = grind (arith, parts) in
          let gain : gain_of c r n d (Work s k) ≡ gain_at c d s.0 k.0 (have s.0 k.0) = ap (λ b. if b then gain_with c r n d (Work s k) else 0) inside in
          balance missed_weight staffing_weight most_gain _ _ _ _ (one_if (nat_lt (have s.0 k.0) (minimum c d s.0 k.0))) (one_if (nat_lt (have s.0 k.0) (optimum c d s.0 k.0))) (request_cost_on c n d (Some s)) refl refl refl
          (one_within (nat_lt (have s.0 k.0) (minimum c d s.0 k.0))) (one_within (nat_lt (have s.0 k.0) (optimum c d s.0 k.0)))
          (shortfall-work c (minimum c d) have s k shift_in skill_in) (shortfall-work c (optimum c d) have s k shift_in skill_in)
          ∙ ap (λ g. shortfall_cost + ((most_gain - g) + request_cost_on c n d (Some s))) (sym gain)

shift_index : (c : Meaning) (x : Choice) → shift_count c ≤ most_shifts → is_choice_of c x ≡ true → last_index (shift_of x) < 1 + most_shifts
shift_index c Off shifts is = omega arith
shift_index c (Work s k) shifts is =
    let parts = and_parts (nat_lt s.0 (shift_count c)) (nat_lt k.0 (skill_count c)) is in
    let inside : s.0 < shift_count c = grind (arith, parts) in
    omega (arith, inside, shifts)

-- ---- the rows and their costs

in_order : (m z f p q : Bool) → ((((m && z) && f) && p) && q) ≡ ((m && (z && (p && q))) && f)
in_order true true true true true = refl
in_order true true true true false = refl
in_order true true true false q = refl
in_order true true false true true = refl
in_order true true false true false = refl
in_order true true false false q = refl
in_order true false f p q = refl
in_order false z f p q = refl

module _ (c : Meaning) (from : ℕ) (r : Rows) (asked : Asked) (n : ℕ) (fits : fits_case c r ≡ true) (inside : n < nurse_count c) (known : asked.day < day_count c) where
  within : n < length r
  within = has_row c r n fits inside

  abbrev can : ℕ → Choice → Bool
  can = can_take c from r asked n

  abbrev D : ℕ
  D = day_count c

  asks : Row → ℕ → Bool
  asks row d = not (d == asked.day) || is_asked asked (choice_on row d)

  asked_day : (row : Row) → all_below D (asks row) ≡ is_asked asked (choice_on row asked.day)
  unfolding asks
  asked_day row =
      all_at D asked.day (asks row) known (λ d h other. ap (λ b. not b || is_asked asked (choice_on row d)) (ne_eqb d asked.day other))
      ∙ ap (λ b. not b || is_asked asked (choice_on row asked.day)) (eq-eqb asked.day asked.day refl)

  kept : (row : Row) → length row ≡ D → is_taking c from r asked n row ≡ offered_row_by c n can row (length row)
  unfolding asks
  kept row days =
      let able : ℕ → Bool = λ d. may_take c n d (choice_on row d) in
      let stays : ℕ → Bool = λ d. keeps_frozen_day c from r n d (choice_on row d) in
      let does : ℕ → Bool = λ d. can_do c from r n d (choice_on row d) in
      let follows : ℕ → Bool = λ d. not (breaks_succession c n (days_of row) d) in
      let places : ℕ → Bool = λ d. keeps_slots c r n d (choice_on row d) in
      (λ i. (works c from r n row i && short_is c r n within row i) && is_asked asked (choice_on row asked.day))
      ∙ ap (λ b. (all_below D (λ d. does d && follows d) && all_below D places) && b) (sym (asked_day row))
      ∙ ap (λ b. b && all_below D (asks row)) (sym (all_both D (λ d. does d && follows d) places))
      ∙ sym (all_both D (λ d. (does d && follows d) && places d) (asks row))
      ∙ all_same D (λ d. ((does d && follows d) && places d) && asks row d) (λ d. (able d && (stays d && (places d && asks row d))) && follows d) (λ d h. in_order (able d) (stays d) (follows d) (places d) (asks row d))
      ∙ sym (ap (offered_row_by c n can row) days)

  -- ---- what a row costs

  abbrev spare : ℕ
  spare = D * most_gain

  abbrev base : ℕ
  base = rest_of c r n + sum_below D (shortfall_cost c r n)

  missed_is : (row : Row) → missed c (with_row r n row) ≡ sum_below D (λ d. shortfall c (minimum c d) (with_choice (others r n d) (choice_on row d)))
  missed_is row = λ i. sum_below D (λ d. shortfall c (minimum c d) (λ s k. cover-with_row r n within row d s k i))

  priced : (row : Row) → length row ≡ D → prices c r n row ≡ sum_below D (λ d. staffing_weight * shortfall c (optimum c d) (with_choice (others r n d) (choice_on row d)) + request_cost_on c n d (shift_of (choice_on row d)))
  priced row days =
      (λ i. sum_below (days i) (λ d. price c r n d (choice_on row d)))
      ∙ (λ i. sum_below D (λ d. staffing-shortfall c d (with_choice (others r n d) (choice_on row d)) i + request_cost_on c n d (shift_of (choice_on row d))))

  days_cost : (row : Row) → sum_below D (λ d. shortfall_with c r n d (choice_on row d)) + spare ≡ sum_below D (shortfall_cost c r n) + sum_below D (λ d. taking_price c r n d (choice_on row d))
  days_cost row =
      let with_row_on : ℕ → ℕ = λ d. shortfall_with c r n d (choice_on row d) in
      let cost : ℕ → ℕ = λ d. taking_price c r n d (choice_on row d) in
      let sums : sum_below D (λ d. with_row_on d + most_gain) ≡ sum_below D (λ d. shortfall_cost c r n d + cost d) = sum_same D (λ d. with_row_on d + most_gain) (λ d. shortfall_cost c r n d + cost d) (λ d h. price_is c r n d (choice_on row d)) in
      ap (λ m. sum_below D with_row_on + m) (sym (same_number D most_gain)) ∙ sym (sum_both D with_row_on (λ d. most_gain)) ∙ sums ∙ sum_both D (shortfall_cost c r n) cost

  costs : (row : Row) → length row ≡ D → spare + cost_with c r n row ≡ base + row_cost_at c n (taking_price c r n) row
  costs row days =
      let low : ℕ → ℕ = λ d. shortfall c (minimum c d) (with_choice (others r n d) (choice_on row d)) in
      let rest : ℕ → ℕ = λ d. staffing_weight * shortfall c (optimum c d) (with_choice (others r n d) (choice_on row d)) + request_cost_on c n d (shift_of (choice_on row d)) in
      let cost : ℕ → ℕ = λ d. taking_price c r n d (choice_on row d) in
      let miss : missed_weight * missed c (with_row r n row) ≡ sum_below D (λ d. missed_weight * low d) = ap (λ m. missed_weight * m) (missed_is row) ∙ sym (scaled missed_weight D low) in
      let all : penalty_with c r n row ≡ rest_of c r n + own_cost c n (days_of row) + sum_below D rest = penalty-with_row r n within row c inside days ∙ ap (λ m. rest_of c r n + own_cost c n (days_of row) + m) (priced row days) in
      let both : sum_below D (λ d. missed_weight * low d + rest d) ≡ sum_below D (λ d. missed_weight * low d) + sum_below D rest = sum_both D (λ d. missed_weight * low d) rest in
      let along : sum_below (length row) cost ≡ sum_below D cost = ap (λ m. sum_below m cost) days in
      omega (arith, miss, all, both, days_cost row, along)

  -- ---- what is found

  abbrev whole : Row → ℕ
  whole row = spare + cost_with c r n row

  with_its_cost : Row → ℕ × Row
  with_its_cost row = (whole row, row)

  abbrev pub best : Priced (List Offer)
  best = best_over c n (shift_taking_offers c from r asked n)

  best_is : option_map with_its_cost (taking_row c from r asked n) ≡ raised (base + due c n []) choices_of best
  unfolding with_its_cost
  best_is =
      ap (option_map (λ row. (whole row, row))) (sym (least_more spare (cost_with c r n) (taking_rows c from r asked n)))
      ∙ found_by_offers c n can (taking_price c r n) base whole (is_taking c from r asked n) kept costs
      ∙ ap (raised (base + due c n []) choices_of) (sym (best_by_shift c n (taking_offers c from r asked n) D 0 (summary_of c n [])))

  read : (o : Option Row) (k : ℕ) (offers : List Offer) → option_map with_its_cost o ≡ raised (base + due c n []) choices_of (Some (k, offers)) → o ≡ Some (choices_of offers)
  unfolding with_its_cost
  read None k offers e = absurd cc
  read (Some row) k offers e = ap Some (ap (thing_or []) e)

  none_is : (o : Option Row) (p : Priced (List Offer)) → option_map with_its_cost o ≡ raised (base + due c n []) choices_of p → is_some p ≡ false → o ≡ None
  unfolding with_its_cost
  none_is None p e none = refl
  none_is (Some row) None e none = absurd cc
  none_is (Some row) (Some p) e none = absurd (true≢false none)

  -- ---- the offers of a day

  price_within : c.keep ≤ most_keep → (d : ℕ) (x : Choice) → taking_price c r n d x ≤ most_price
  price_within small d x = omega (arith, request_on-within c n d (shift_of x) small)

  offers_of_case : c.keep ≤ most_keep → (d : ℕ) → All (IsOfferOf c) (taking_offers c from r asked n d)
  offers_of_case small d =
      All-map (IsOfferOf c) (offer_at (taking_price c r n) d) (filter (can d) (all_choices c))
      (All-filter (can d) (λ x. IsOfferOf c (offer_at (taking_price c r n) d x)) (all_choices c)
      (All-weaker (Contains (all_choices c)) (λ x. IsOfferOf c (offer_at (taking_price c r n) d x)) (λ x member. record { choice = member_is_choice c x member; price = price_within small d x }) (all_choices c) (All-contains_itself (all_choices c))))

  pub shift_offers_of_case : c.keep ≤ most_keep → (d : ℕ) → All (IsOfferOf c) (shift_taking_offers c from r asked n d)
  shift_offers_of_case small d = by_shift_all (IsOfferOf c) (taking_offers c from r asked n d) (offers_of_case small d)

  pub few : (d : ℕ) → length (shift_taking_offers c from r asked n d) ≤ choice_count c n
  few d =
      omega (arith, by_shift_fewer (taking_offers c from r asked n d), offers_few_of c n can (taking_price c r n) able d)
    where
      able : (e : ℕ) (x : Choice) → can e x ≡ true → is_able (nurse_at c n).skills x ≡ true
      able e x is =
          let may = and_parts (may_take c n e x) (is_open_for c from r asked n e x) is in
          (and_parts (is_able (nurse_at c n).skills x) (is_here c n e x) may.0).0

  -- ---- a table of these offers

  module _ (table : List (ArrayVec Offer)) (are : AreTakingOffers c from r asked n table) where
    same_best : best_over c n (offers_on table) ≡ best
    same_best = best_over_same c n (offers_on table) (shift_taking_offers c from r asked n) are.each

    -- whether a row leads through the table
    abbrev pub leads : Bool
    leads = leads_on c (offers_on table) D 0 (last_shift (past_of c n).border)

    leads_is : is_some (best_over c n (offers_on table)) ≡ leads
    leads_is = some_where_leads c n (offers_on table) D 0 (summary_of c n []) ∙ ap (leads_on c (offers_on table) D 0) (first_last c n)

    pub places : c.keep ≤ most_keep → (d : ℕ) → d < D → All (IsOfferOf c) (offers_on table d)
    places small d h = subst (All (IsOfferOf c)) (sym (are.each d h)) (shift_offers_of_case small d)

    -- each shift has its index in a table of last shifts
    pub indices_fit : c.keep ≤ most_keep → shift_count c ≤ most_shifts → (d : ℕ) → d < D → All (λ (offer : Offer). last_index (shift_of offer.choice) < 1 + most_shifts) (offers_on table d)
    indices_fit small shifts d h = All-weaker (IsOfferOf c) (λ (offer : Offer). last_index (shift_of offer.choice) < 1 + most_shifts) (λ offer is. shift_index c offer.choice shifts is.choice) (offers_on table d) (places small d h)

    pub none_listed : leads ≡ false → taking_row c from r asked n ≡ None
    none_listed e = none_is (taking_row c from r asked n) best best_is (ap is_some (sym same_best) ∙ leads_is ∙ e)

    module _ (e : leads ≡ true) where
      pub some_found : IsSome (best_over c n (offers_on table))
      some_found = leads_is ∙ e

      day_offers : c.keep ≤ most_keep → (d : ℕ) → d < D → AreDayOffers c n (offers_on table d)
      day_offers small d h = record {
        of_case = places small d h;
        some = leads_some c (offers_on table) D 0 (last_shift (past_of c n).border) e d (omega arith) (omega (arith, h));
        few = omega (arith, few d, ap length (are.each d h));
      }

      pub can_search : c.keep ≤ most_keep → AreOffers c n table
      can_search small = record { days = omega (arith, are.days); each = day_offers small }

      pub row_listed : (cost : ℕ) (row : Row) → IsFound (best_over c n (offers_on table)) cost row → taking_row c from r asked n ≡ Some row
      row_listed cost row found =
          read (taking_row c from r asked n) cost found.offers (best_is ∙ ap (raised (base + due c n []) choices_of) (sym same_best ∙ found.is)) ∙ ap Some (sym found.row_is)

      -- and the row is one of the case's
      pub row_fits_case : (cost : ℕ) (row : Row) → IsFound (best_over c n (offers_on table)) cost row → is_row_of c row ≡ true
      row_fits_case cost row found = member_is_row c row (kept_is_member (is_taking c from r asked n) (all_rows (all_choices c) D) row (least_member (cost_with c r n) (taking_rows c from r asked n) row (row_listed cost row found)))
