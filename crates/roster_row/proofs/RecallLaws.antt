-- What the last searches show: the prices that are recorded, and that no row has become cheaper.
use Rattle.std.proofs.Common.{◌≡◌, ◌∙◌, ◌+◌, ◌*◌, ◌<◌, ◌≤◌, ◌⊎◌, ◌≢◌, ℕ, suc, Bool, true, false, ◌==◌, if◌then◌else◌, inl, inr, ap, arith, get_or-set_other, refl, subst, sym, List, [], All, length, nat_lt, replicate, slice_index, slice_index_or, slice_set, Option, None, Some, IfSome, IsSome}
use Rattle.std.specs.Prelude.{IsSomeAnd}
use Rattle.std.proofs.lemmas.Bool.{and_parts, cases_eq, cases_lt, eq-eqb, eqb-true, ltb-true, true≢false}
use Rattle.std.proofs.Math.Path.{transport}
use Rattle.std.proofs.lemmas.Grind.{get_or-set_at}
use Rattle.std.proofs.lemmas.List.{get_or-replicate, length-replicate, length-set}
use Rattle.std.proofs.lemmas.List.Elements.{All-weaker, Contains-get_or}
use Rattle.std.proofs.lemmas.Nat.{mul-le}
use Rattle.arrayvec.specs.ArrayVec.{ArrayVec}
use Rattle.roster_instance.specs.declared.choice.Choice.{Choice}
use Rattle.roster_instance.specs.declared.choice.Choice.TheVariants.{Off, Work}
use Rattle.roster_instance.specs.declared.choice.Shift.{Shift}
use Rattle.roster_instance.specs.Choices.{shift_of}
use Rattle.roster_instance.specs.Counting.{sum_below}
use Rattle.roster_instance.specs.Limits.{most_shifts}
use Rattle.roster_instance.specs.Meaning.{Meaning, day_count, nurse_count, shift_at, shift_count, skill_count}
use Rattle.roster_instance.specs.Rosters.{Rows, fits_case, is_choice_of}
use Rattle.roster_rules.specs.AllowedRows.{best_row}
use Rattle.roster_rules.specs.HardRules.{keeps_hard}
use Rattle.roster_rules.specs.Improver.{step}
use Rattle.roster_rules.specs.Penalties.{penalty}
use Rattle.roster_rules.specs.Prefix.{due}
use Rattle.roster_rules.proofs.RunSums.{sum_same}
use Rattle.roster_laws.specs.OneRow.{rest_of}
use Rattle.roster_laws.proofs.Steps.{left_out}
use Rattle.roster_offers.specs.declared.offer.Offer.{Offer}
use Rattle.roster_offers.specs.Cheapest.{Priced}
use Rattle.roster_offers.specs.Offers.{best_by_states}
use Rattle.roster_offers.specs.Rises.{HasRisen}
use Rattle.roster_offers.specs.Lists.{AreDayOffersAt, IsOfferAt, best_over, offers_on}
use Rattle.roster_offers.proofs.AtOne.{best_over_one}
use Rattle.roster_offers.proofs.Best.{best_some, is_best, penalty_is}
use Rattle.roster_offers.proofs.RiseLaws.{cost_has_risen}
use Rattle.roster_row.specs.declared.last.LastSearches.{LastSearches}
use Rattle.roster_row.specs.Recalled.{ArePrices, IsDearer, RecallsSearchesAt, IsPriceOf, WasSearchedAt, fits_last, not_offered, price_index, prices_on}
use Rattle.roster_row.specs.Searches.{AreShiftOffers}
use Rattle.roster_row.proofs.OffersLaws.{best_is}

-- ---- the prices of a day

index_fits : {scale : ℕ} (c : Meaning) → shift_count c ≤ most_shifts → (x : Offer) → IsOfferAt c scale x → price_index (shift_of x.choice) < 1 + most_shifts
index_fits c few x of_case = go x.choice of_case.choice
  where
    go : (choice : Choice) → is_choice_of c choice ≡ true → price_index (shift_of choice) < 1 + most_shifts
    go Off is = omega arith
    go (Work s k) is = omega (arith, few, ltb-true s.0 (shift_count c) (and_parts (nat_lt s.0 (shift_count c)) (nat_lt k.0 (skill_count c)) is).0)

pub indices_fit : {scale : ℕ} (c : Meaning) (n : ℕ) (offers : List Offer) → shift_count c ≤ most_shifts → AreDayOffersAt c n scale offers → All (λ x. price_index (shift_of x.choice) < 1 + most_shifts) offers
indices_fit {scale} c n offers few are = All-weaker (IsOfferAt c scale) (λ x. price_index (shift_of x.choice) < 1 + most_shifts) (index_fits c few) offers are.of_case

-- an offer's price is put at its index
pub price_put : (offers : List Offer) (prices : List ℕ) (i at : ℕ) (d : Offer) → i < length offers → at < length prices → at ≡ price_index (shift_of (slice_index_or offers i d).choice) → ArePrices offers prices → ArePrices offers (slice_set prices at (slice_index_or offers i d).price)
price_put offers prices i at d inside within at_is are index below = go (slice_index_or offers i d).price refl (cases_eq at index)
  where
    go : (price : ℕ) → (slice_index_or offers i d).price ≡ price → (at ≡ index) ⊎ (at ≢ index) → slice_index (slice_set prices at price) index ≢ not_offered → IsPriceOf offers index (slice_index (slice_set prices at price) index)
    go price is (inl same) offered = record {
      offer = slice_index_or offers i d;
      among = Contains-get_or offers i d inside;
      at = sym at_is ∙ same;
      is = is ∙ sym (get_or-set_at prices at index price 0 (sym same) within);
    }
    go price is (inr differs) offered =
        let kept : slice_index (slice_set prices at price) index ≡ slice_index prices index = get_or-set_other prices at index price 0 (λ e. differs (sym e)) in
        subst (IsPriceOf offers index) (sym kept) (are index below (λ e. offered (kept ∙ e)))

same_index : (s t : Option Shift) → price_index s ≡ price_index t → s ≡ t
same_index None None e = refl
same_index None (Some t) e = absurd (omega (arith, e))
same_index (Some s) None e = absurd (omega (arith, e))
same_index (Some s) (Some t) e = ap (λ m. Some (shift_at m)) (omega (arith, e))

-- what is dearer than these prices has risen since they were offered
has_risen : (old : List Offer) (prices : List ℕ) (rise fall : ℕ) → ArePrices old prices → (x : Offer) → IsDearer prices rise fall x → HasRisen rise fall old x
has_risen old prices rise fall are x dearer =
    let found = are (price_index (shift_of x.choice)) dearer.index dearer.offered in
    record {
      before = found.offer;
      among = found.among;
      shift = same_index (shift_of found.offer.choice) (shift_of x.choice) found.at;
      price = omega (arith, found.is, dearer.price);
    }

-- ---- how the prices of the first days have changed

pub record HaveChanged (c : Meaning) (last : LastSearches) (n : ℕ) (offers : ℕ → List Offer) (days rise fall : ℕ) : Type 0 where
  pub rises : ℕ → ℕ
  pub falls : ℕ → ℕ
  pub each : (d : ℕ) → d < days → All (IsDearer (prices_on c last n d) (rises d) (falls d)) (offers d)
  pub rise_is : rise ≡ sum_below days rises
  pub fall_is : fall ≡ sum_below days falls

-- a sequence with another number at one index
abbrev with_at : (ℕ → ℕ) → (day more : ℕ) → ℕ → ℕ
with_at f day more d = if d == day then more else f d

with_here : (f : ℕ → ℕ) (day more : ℕ) → with_at f day more day ≡ more
with_here f day more = ap (λ b. if b then more else f day) (eq-eqb day day refl)

with_before : (f : ℕ → ℕ) (day more d : ℕ) → d < day → with_at f day more d ≡ f d
with_before f day more d low = go (d == day) refl
  where
    go : (b : Bool) → d == day ≡ b → (if b then more else f d) ≡ f d
    go true e = absurd (omega (arith, low, eqb-true d day e))
    go false e = refl

sum_with : (f : ℕ → ℕ) (day more : ℕ) → sum_below day f + more ≡ sum_below (day + 1) (with_at f day more)
sum_with f day more =
    let one : day + 1 ≡ suc day = omega arith in
    let next : sum_below (day + 1) (with_at f day more) ≡ sum_below day (with_at f day more) + with_at f day more day = ap (λ k. sum_below k (with_at f day more)) one in
    omega (arith, next, with_here f day more, sum_same day (with_at f day more) f (λ d low. with_before f day more d low))

module _ (c : Meaning) (last : LastSearches) (n : ℕ) (offers : ℕ → List Offer) where
  pub changed_none : HaveChanged c last n offers 0 0 0
  changed_none = record {
    rises = λ d. 0;
    falls = λ d. 0;
    each = λ d low. absurd (omega (arith, low));
    rise_is = refl;
    fall_is = refl;
  }

  pub changed_more : (day rise fall more less : ℕ) → HaveChanged c last n offers day rise fall → All (IsDearer (prices_on c last n day) more less) (offers day) → HaveChanged c last n offers (day + 1) (rise + more) (fall + less)
  changed_more day rise fall more less old here = record {
    rises = with_at old.rises day more;
    falls = with_at old.falls day less;
    each = λ d low. go d (cases_lt d day) low;
    rise_is = omega (arith, old.rise_is, sum_with old.rises day more);
    fall_is = omega (arith, old.fall_is, sum_with old.falls day less);
  }
    where
      Dearer : ℕ → ℕ → ℕ → Type 0
      Dearer d up down = All (IsDearer (prices_on c last n d) up down) (offers d)

      go : (d : ℕ) → (d < day) ⊎ (day ≤ d) → d < day + 1 → Dearer d (with_at old.rises day more d) (with_at old.falls day less d)
      go d (inl low) up_to = transport (λ i. Dearer d (sym (with_before old.rises day more d low) i) (sym (with_before old.falls day less d low) i)) (old.each d low)
      go d (inr high) up_to =
          let is : day ≡ d = omega (arith, high, up_to) in
          subst (λ k. Dearer k (with_at old.rises day more k) (with_at old.falls day less k)) is (transport (λ i. Dearer day (sym (with_here old.rises day more) i) (sym (with_here old.falls day less) i)) here)

-- the two sums have grown by what has changed
pub record SoFar (c : Meaning) (last : LastSearches) (n : ℕ) (offers : ℕ → List Offer) (days least0 least present0 present : ℕ) : Type 0 where
  pub rise : ℕ
  pub fall : ℕ
  pub changed : HaveChanged c last n offers days rise fall
  pub least_is : least ≡ least0 + rise
  pub present_is : present ≡ present0 + fall
  pub rise_low : rise ≤ 4294967295 * days
  pub fall_low : fall ≤ 4294967295 * days

module _ (c : Meaning) (last : LastSearches) (n : ℕ) (offers : ℕ → List Offer) where
  pub so_far_none : (least present : ℕ) → SoFar c last n offers 0 least least present present
  so_far_none least present = record {
    rise = 0;
    fall = 0;
    changed = changed_none c last n offers;
    least_is = omega arith;
    present_is = omega arith;
    rise_low = omega arith;
    fall_low = omega arith;
  }

  pub so_far_more : (day least0 least present0 present rise fall : ℕ) → SoFar c last n offers day least0 least present0 present → rise ≤ 4294967295 → fall ≤ 4294967295 → All (IsDearer (prices_on c last n day) rise fall) (offers day) → SoFar c last n offers (day + 1) least0 (least + rise) present0 (present + fall)
  so_far_more day least0 least present0 present rise fall old rise_in fall_in here = record {
    rise = old.rise + rise;
    fall = old.fall + fall;
    changed = changed_more c last n offers day old.rise old.fall rise fall old.changed here;
    least_is = omega (arith, old.least_is);
    present_is = omega (arith, old.present_is);
    rise_low = omega (arith, old.rise_low, rise_in);
    fall_low = omega (arith, old.fall_low, fall_in);
  }

-- ---- no row is cheaper

module _ (c : Meaning) (r : Rows) (fits : fits_case c r ≡ true) (keeps : keeps_hard c r ≡ true) (n : ℕ) (inside : n < nurse_count c) where
  -- the best row costs at least what the last one did, plus all that has risen, less all that has fallen
  at_least : (last : LastSearches) (cost rise fall : ℕ) (offers : ℕ → List Offer) → WasSearchedAt c 1 last n cost → HaveChanged c last n offers (day_count c) rise fall → (now : ℕ) (row : List Offer) → best_over c n offers ≡ Some (now, row) → cost + rise ≤ now + fall
  at_least last cost rise fall offers was changed now row is =
      let each : (d : ℕ) → d < day_count c → All (HasRisen (changed.rises d) (changed.falls d) (was.offers d)) (offers d) = λ d low. All-weaker (IsDearer (prices_on c last n d) (changed.rises d) (changed.falls d)) (HasRisen (changed.rises d) (changed.falls d) (was.offers d)) (has_risen (was.offers d) (prices_on c last n d) (changed.rises d) (changed.falls d) (was.prices d low)) (offers d) (changed.each d low) in
      let risen = cost_has_risen c n was.offers offers changed.rises changed.falls each now row is in
      let low : cost + sum_below (day_count c) changed.rises ≤ now + sum_below (day_count c) changed.falls = subst (λ (o : Priced (List Offer)). IsSomeAnd o (λ best. best.0 + sum_below (day_count c) changed.rises ≤ now + sum_below (day_count c) changed.falls)) (sym (best_over_one c n was.offers) ∙ was.found) risen in
      omega (arith, low, changed.rise_is, changed.fall_is)

  pub none_cheaper : (last : LastSearches) (cost rise fall : ℕ) (offers : List (ArrayVec Offer)) → WasSearchedAt c 1 last n cost → HaveChanged c last n (offers_on offers) (day_count c) rise fall → penalty c r + fall ≤ rest_of c r n + due c n [] + cost + rise → (from : ℕ) → AreShiftOffers c from r n offers → step c (best_row c from) r n ≡ r
  none_cheaper last cost rise fall offers was changed enough from are = go (best_by_states c from r n) refl (best_some c from r fits keeps n inside)
    where
      go : (o : Priced (List Offer)) → best_by_states c from r n ≡ o → IsSome o → step c (best_row c from) r n ≡ r
      go None is some = elim (true≢false (sym some)) [ ]
      go (Some best) is some =
          let low = at_least last cost rise fall (offers_on offers) was changed best.0 best.1 (best_is c from r n offers are ∙ is) in
          left_out c from r n _ (is_best c from r fits keeps n inside best.0 best.1 is) (omega (arith, enough, low, penalty_is c from r fits keeps n inside best.0 best.1 is))

-- ---- a search is recorded

-- a nurse's day has its index
pub day_within : (c : Meaning) (n d : ℕ) → n < nurse_count c → d < day_count c → n * day_count c + d < nurse_count c * day_count c
day_within c n d inside low = omega (arith, low, mul-le (n + 1) (day_count c) (nurse_count c) (day_count c) (omega (arith, inside)) (omega arith))

-- the index of another nurse's day
abbrev pub Outside : Meaning → ℕ → ℕ → Type 0
Outside c n i = (i < n * day_count c) ⊎ (n * day_count c + day_count c ≤ i)

module _ (c : Meaning) (n : ℕ) (inside : n < nurse_count c) where
  -- the prices of a day more
  module _ (offers : ℕ → List Offer) (day : ℕ) (low : day < day_count c) (prices : List (List ℕ)) (all : length prices ≡ nurse_count c * day_count c) (new : List ℕ) where
    within : n * day_count c + day < length prices
    within = omega (arith, all, day_within c n day inside low)

    pub day_put : ArePrices (offers day) new → ((d : ℕ) → d < day → ArePrices (offers d) (slice_index_or prices (n * day_count c + d) [])) → (d : ℕ) → d < day + 1 → ArePrices (offers d) (slice_index_or (slice_set prices (n * day_count c + day) new) (n * day_count c + d) [])
    day_put here before d up_to = go (cases_lt d day)
      where
        go : (d < day) ⊎ (day ≤ d) → ArePrices (offers d) (slice_index_or (slice_set prices (n * day_count c + day) new) (n * day_count c + d) [])
        go (inl less) =
            let ne : n * day_count c + d ≢ n * day_count c + day = omega (arith, less) in
            subst (ArePrices (offers d)) (sym (get_or-set_other prices (n * day_count c + day) (n * day_count c + d) new [] ne)) (before d less)
        go (inr more) =
            let is : day ≡ d = omega (arith, more, up_to) in
            subst (λ k. ArePrices (offers k) (slice_index_or (slice_set prices (n * day_count c + day) new) (n * day_count c + k) [])) is
            (subst (ArePrices (offers day)) (sym (get_or-set_at prices (n * day_count c + day) (n * day_count c + day) new [] refl within)) here)

    pub others_stay : (i : ℕ) → Outside c n i → slice_index_or (slice_set prices (n * day_count c + day) new) i [] ≡ slice_index_or prices i []
    others_stay i outside =
        let ne : i ≢ n * day_count c + day = elim outside [
          | inl before ↦ omega (arith, before)
          | inr after ↦ omega (arith, after, low)
        ] in
        get_or-set_other prices (n * day_count c + day) i new [] ne

  other_nurse : (m d : ℕ) → m ≢ n → d < day_count c → Outside c n (m * day_count c + d)
  other_nurse m d differs low = elim (cases_lt m n) [
    | inl less ↦ inl (omega (arith, low, mul-le (m + 1) (day_count c) n (day_count c) (omega (arith, less)) (omega arith)))
    | inr more ↦ inr (omega (arith, mul-le (n + 1) (day_count c) m (day_count c) (omega (arith, more, differs)) (omega arith)))
  ]

  pub recalls_more : (scale : ℕ) (old new : LastSearches) (cost : ℕ) → RecallsSearchesAt c scale old → length new.prices.items ≡ length old.prices.items → new.costs.items ≡ slice_set old.costs.items n (Some cost)
      → ((i : ℕ) → Outside c n i → slice_index_or new.prices.items i [] ≡ slice_index_or old.prices.items i []) → WasSearchedAt c scale new n cost → RecallsSearchesAt c scale new
  recalls_more scale old new cost recalls lengths costs others here = record {
    nurses = ap length costs ∙ length-set old.costs.items n (Some cost) ∙ recalls.nurses;
    days = lengths ∙ recalls.days;
    searched = λ m within. subst (λ (o : Option ℕ). IfSome o (WasSearchedAt c scale new m)) (sym (ap (λ xs. slice_index_or xs m None) costs)) (go m within (cases_eq m n));
  }
    where
      kept : (m : ℕ) → m ≢ n → (o : Option ℕ) → IfSome o (WasSearchedAt c scale old m) → IfSome o (WasSearchedAt c scale new m)
      kept m differs None was = was
      kept m differs (Some k) was = record {
        offers = was.offers;
        row = was.row;
        prices = λ d low. subst (ArePrices (was.offers d)) (sym (others (m * day_count c + d) (other_nurse m d differs low))) (was.prices d low);
        found = was.found;
      }

      go : (m : ℕ) → m < nurse_count c → (m ≡ n) ⊎ (m ≢ n) → IfSome (slice_index_or (slice_set old.costs.items n (Some cost)) m None) (WasSearchedAt c scale new m)
      go m within (inl same) =
          subst (λ (o : Option ℕ). IfSome o (WasSearchedAt c scale new m)) (sym (get_or-set_at old.costs.items n m (Some cost) None same (omega (arith, inside, recalls.nurses)))) (subst (λ k. WasSearchedAt c scale new k cost) (sym same) here)
      go m within (inr differs) =
          subst (λ (o : Option ℕ). IfSome o (WasSearchedAt c scale new m)) (sym (get_or-set_other old.costs.items n m (Some cost) None differs)) (kept m differs (slice_index_or old.costs.items m None) (recalls.searched m within))

-- ---- the offers of a day

-- one offer more, with a smaller rise and a greater fall of all
pub dearer_more : (prices : List ℕ) (offers : List Offer) (index rise fall rise_now fall_now : ℕ) → rise_now ≤ rise → fall ≤ fall_now → ((k : ℕ) (d : Offer) → k < index → IsDearer prices rise fall (slice_index_or offers k d)) → ((d : Offer) → IsDearer prices rise_now fall_now (slice_index_or offers index d))
    → (k : ℕ) (d : Offer) → k < index + 1 → IsDearer prices rise_now fall_now (slice_index_or offers k d)
dearer_more prices offers index rise fall rise_now fall_now less more so_far here k d below = go (cases_eq k index)
  where
    go : (k ≡ index) ⊎ (k ≡ index → ⊥) → IsDearer prices rise_now fall_now (slice_index_or offers k d)
    go (inl same) = subst (λ i. IsDearer prices rise_now fall_now (slice_index_or offers i d)) (sym same) (here d)
    go (inr other) =
        let old = so_far k d (omega (arith, below, other)) in
        record { index = old.index; offered = old.offered; price = omega (arith, old.price, less, more) }

-- ---- nothing is recorded

pub forgets : (c : Meaning) (scale : ℕ) (old new : LastSearches) → length old.costs.items ≡ nurse_count c → length old.prices.items ≡ nurse_count c * day_count c → new.prices ≡ old.prices → new.costs.items ≡ replicate (length old.costs.items) None → RecallsSearchesAt c scale new
forgets c scale old new nurses days prices costs =
    record {
      nurses = ap length costs ∙ length-replicate (length old.costs.items) None ∙ nurses;
      days = ap (λ v. length v.items) prices ∙ days;
      searched = λ n inside. subst (λ (o : Option ℕ). IfSome o (WasSearchedAt c scale new n)) (sym (ap (λ xs. slice_index_or xs n None) costs ∙ get_or-replicate (length old.costs.items) n None None (omega (arith, inside, nurses)))) tt;
    }

pub forgotten : (c : Meaning) (old new : LastSearches) → fits_last c old ≡ true → new.prices ≡ old.prices → new.costs.items ≡ replicate (length old.costs.items) None → RecallsSearchesAt c 1 new
forgotten c old new fits prices costs =
    let both = and_parts (length old.costs.items == nurse_count c) (length old.prices.items == nurse_count c * day_count c) fits in
    forgets c 1 old new (eqb-true (length old.costs.items) (nurse_count c) both.0) (eqb-true (length old.prices.items) (nurse_count c * day_count c) both.1) prices costs
