-- The days of a search over a table of offers, one after another: the tables from the last day to the first,
-- and the row from the first to the last.
use Rattle.std.proofs.Common.{◌≡◌, ◌∙◌, ◌+◌, ◌-◌, All, is_some, ◌*◌, ◌<◌, ◌≤◌, ◌⊎◌, ◌≢◌, ℕ, zero, suc, get_or-set_other, Option, None, inl, inr, ap, append_assoc, arith, mul_assoc, mul_comm, refl, subst, sym, List, [], ◌∷◌, ◌++◌, length, slice_index_or, slice_set, take, Some, IfSome, IsSome}
use Rattle.std.proofs.Math.Path.{transport}
use Rattle.std.proofs.lemmas.Bool.{cases_lt, true≢false}
use Rattle.std.proofs.lemmas.Grind.{get_or-set_at}
use Rattle.std.proofs.lemmas.List.Elements.{All-head, All-tail}
use Rattle.std.proofs.lemmas.List.{append-nil, get_or_default, take_more_set}
use Rattle.std.proofs.lemmas.Nat.{mul-le}
use Rattle.roster_instance.specs.declared.choice.Choice.{Choice}
use Rattle.roster_instance.specs.Meaning.{Meaning, day_count}
use Rattle.roster_instance.specs.Sizes.{choice_count, state_count}
use Rattle.roster_instance.specs.Rosters.{Row}
use Rattle.roster_rules.specs.Prefix.{Summary, summary_of}
use Rattle.roster_laws.specs.Greatest.{extension_count}
use Rattle.roster_instance.specs.Choices.{shift_of}
use Rattle.roster_state.specs.declared.state_box.StateBox.{StateBox}
use Rattle.roster_state.specs.Codes.{code_of, product, sizes_of}
use Rattle.roster_state.specs.Transition.{transition_of}
use Rattle.roster_offers.specs.declared.offer.Offer.{Offer}
use Rattle.roster_offers.specs.ByStates.{best_after}
use Rattle.roster_offers.specs.Cheapest.{Priced, cheaper, cheapest, raised}
use Rattle.roster_offers.proofs.Cheapest.{thing_or}
use Rattle.roster_offers.specs.Offers.{best_of_offers_at, choices_of, dearer, offer_transition_at, scaled}
use Rattle.roster_offers.specs.Lists.{best_over_at, no_row, offers_on}
use Rattle.roster_lanes.specs.Lanes.{SameOutside}
use Rattle.roster_tables.specs.declared.day.OpenDay.{OpenDay}
use Rattle.roster_tables.specs.declared.days.SearchDays.{SearchDays}
use Rattle.roster_tables.specs.Counts.{states_on}
use Rattle.roster_tables.specs.Days.{LabelsOn, PointersOn, all_pointers}
use Rattle.roster_tables.specs.OpenDays.{AreTables, HaveCapacity, IsDayOf, KeepTables, IsReachableOn, day_extensions}
use Rattle.roster_tables.specs.Tables.{AreLabels, ArePointers, BeginsWith, BestOnward, LeadsOn, PointsWhereBest, IsReachable, best_at_end, best_by, best_on, label_of}
use Rattle.roster_tables.specs.Search.{BoxesLead, PointersFrom, boxes_on, onward, search_day, extensions_on}
use Rattle.roster_tables.proofs.CellLaws.{outside_wider}

module _ (c : Meaning) (n scale : ℕ) (offers : ℕ → List Offer) where
  -- ---- the best row from a day on

  pub onward-first : onward c n scale offers 0 (summary_of c n []) ≡ best_over_at c n scale offers
  onward-first = ap (λ m. best_of_offers_at c n scale offers m 0 (summary_of c n [])) all
    where
      all : day_count c - 0 ≡ day_count c
      all = omega arith

  pub onward-last : onward c n scale offers (day_count c) ≡ best_at_end c n scale
  onward-last = λ i s. best_of_offers_at c n scale offers (none i) (day_count c) s
    where
      none : day_count c - day_count c ≡ 0
      none = omega arith

  pub onward-day : (d : ℕ) → d < day_count c → onward c n scale offers d ≡ best_on c (search_day n scale d) (offers d) (onward c n scale offers (d + 1))
  onward-day d within = (λ i s. best_of_offers_at c n scale offers (more i) d s) ∙ (λ i s. cheapest (λ x. best_after x (offer_transition_at c n scale d s x) (best_of_offers_at c n scale offers (day_count c - (d + 1)) (next i))) (offers d))
    where
      more : day_count c - d ≡ suc (day_count c - (d + 1))
      more = omega (arith, within)

      next : suc d ≡ d + 1
      next = omega arith

  -- ---- the tables of one more day

  pub labels_before : (d : ℕ) → d < day_count c → (boxes : List StateBox) (labels : List ℕ) → AreLabels c n boxes (best_on c (search_day n scale d) (offers d) (onward c n scale offers (d + 1))) labels → AreLabels c n boxes (onward c n scale offers d) labels
  labels_before d within boxes labels = subst (λ best. AreLabels c n boxes best labels) (sym (onward-day d within))

  abbrev size : ℕ
  size = product (sizes_of c n)

  module _ (boxes : List (List StateBox)) where
    abbrev DayPointed : List ℕ → ℕ → ℕ → Type 0
    DayPointed pointers first d = ArePointers c (search_day n scale d) (boxes_on boxes d) (offers d) (onward c n scale offers (d + 1)) first pointers

    pub pointers_before : (d first : ℕ) (old new : List ℕ) → first ≡ d * size → DayPointed new first d → SameOutside first (first + size) old new → PointersFrom c n scale offers boxes (d + 1) old → PointersFrom c n scale offers boxes d new
    pointers_before d first old new is here same later day low within = go (cases_lt d day)
      where
        go : (d < day) ⊎ (day ≤ d) → DayPointed new (day * size) day
        go (inl after) = λ s reachable.
            let code = code_of (sizes_of c n) s in
            let place : first + size ≤ day * size + code = omega (arith, is, mul-le (d + 1) size day size (omega (arith, after)) (omega arith)) in
            subst (PointsWhereBest (best_by c (search_day n scale day) (onward c n scale offers (day + 1)) s) (offers day) (best_on c (search_day n scale day) (offers day) (onward c n scale offers (day + 1)) s))
            (sym (same.after (day * size + code) place)) (later day (omega (arith, after)) within s reachable)
        go (inr this) =
            let same_day : d ≡ day = omega (arith, this, low) in
            subst (λ k. DayPointed new (k * size) k) same_day (subst (λ place. DayPointed new place d) is here)

-- ---- the states that are reachable on a day: there is one

some_after : (scale : ℕ) (later : BestOnward) (offer : Offer) (o : Option (Summary × ℕ)) → IsSome (best_after offer (dearer offer.price (scaled scale o)) later) → (t : Summary × ℕ) × (o ≡ Some t) × IsSome (later t.0)
some_after scale later offer None some = elim (true≢false (sym some)) [ ]
some_after scale later offer (Some t) some = (t, refl, go (later t.0) some)
  where
    go : (p : Priced (List Offer)) → IsSome (raised (offer.price + scale * t.1) (λ rest. offer ∷ rest) p) → IsSome p
    go None none = elim (true≢false (sym none)) [ ]
    go (Some p) is = refl

some_of_both : {X : Type 0} (p q : Priced X) → IsSome (cheaper p q) → IsSome p ⊎ IsSome q
some_of_both None q some = inr some
some_of_both (Some p) q some = inl refl

some_cheapest : {Y X : Type 0} (f : Y → Priced X) (P : Y → Type 0) (xs : List Y) → All P xs → IsSome (cheapest f xs) → (y : Y) × P y × IsSome (f y)
some_cheapest f P [] all some = elim (true≢false (sym some)) [ ]
some_cheapest f P (y ∷ ys) all some = elim (some_of_both (f y) (cheapest f ys) some) [
  | inl here ↦ (y, All-head P y ys all, here)
  | inr there ↦ some_cheapest f P ys (All-tail P y ys all) there
]

-- a state that is reachable on a day, from which a row goes on
pub record GoesOn (c : Meaning) (n scale : ℕ) (offers : ℕ → List Offer) (boxes : List (List StateBox)) (day : ℕ) : Type 0 where
  pub state : Summary
  pub reachable : IsReachable c n (boxes_on boxes day) state
  pub some : IsSome (onward c n scale offers day state)

module _ (c : Meaning) (n scale : ℕ) (offers : ℕ → List Offer) (boxes : List (List StateBox)) (lead : BoxesLead c n offers boxes) where
  next_on : (day : ℕ) → day < day_count c → GoesOn c n scale offers boxes day → GoesOn c n scale offers boxes (day + 1)
  next_on day within at =
      let s = at.state in
      let later = onward c n scale offers (day + 1) in
      let some : IsSome (best_on c (search_day n scale day) (offers day) later s) = subst (λ (f : BestOnward). IsSome (f s)) (onward-day c n scale offers day within) at.some in
      let found = some_cheapest (best_by c (search_day n scale day) later s) (LeadsOn c n day (boxes_on boxes day) (boxes_on boxes (day + 1))) (offers day) (lead day within) some in
      let transition = some_after scale later found.0 (transition_of c n day s (shift_of found.0.choice)) found.2 in
      record { state = transition.0.0; reachable = found.1 s transition.0 at.reachable transition.1; some = transition.2 }

  pub goes_on : IsReachable c n (boxes_on boxes 0) (summary_of c n []) → IsSome (best_over_at c n scale offers) → (day : ℕ) → day ≤ day_count c → GoesOn c n scale offers boxes day
  goes_on start some zero within = record { state = summary_of c n []; reachable = start; some = subst (λ (p : Priced (List Offer)). IsSome p) (sym (onward-first c n scale offers)) some }
  goes_on start some (suc day) within = subst (GoesOn c n scale offers boxes) (omega arith) (next_on day (omega (arith, within)) (goes_on start some day (omega (arith, within))))

-- ---- the boxes of one more day

module _ (c : Meaning) (n : ℕ) (offers : ℕ → List Offer) (boxes : List (List StateBox)) (day : ℕ) (inside : day + 1 < length boxes) (after : List StateBox) where
  abbrev with_day : List (List StateBox)
  with_day = slice_set boxes (day + 1) after

  pub day_set : boxes_on with_day (day + 1) ≡ after
  day_set = get_or-set_at boxes (day + 1) (day + 1) after [] (λ i. day + 1) inside

  pub day_kept : (d : ℕ) → d ≤ day → boxes_on with_day d ≡ boxes_on boxes d
  day_kept d up_to = let ne : d ≢ day + 1 = omega arith in get_or-set_other boxes (day + 1) d after [] ne

  abbrev LeadOn : List (List StateBox) → ℕ → Type 0
  LeadOn table d = All (LeadsOn c n d (boxes_on table d) (boxes_on table (d + 1))) (offers d)

  pub lead_more : All (LeadsOn c n day (boxes_on boxes day) after) (offers day) → ((d : ℕ) → d < day → LeadOn boxes d) → (d : ℕ) → d < day + 1 → LeadOn with_day d
  lead_more here before d below = go (cases_lt d day)
    where
      go : (d < day) ⊎ (day ≤ d) → LeadOn with_day d
      go (inl low) = transport (λ i. All (LeadsOn c n d (sym (day_kept d (omega (arith, low))) i) (sym (day_kept (d + 1) (omega (arith, low))) i)) (offers d)) (before d low)
      go (inr high) =
          let is : day ≡ d = omega (arith, high, below) in
          subst (LeadOn with_day) is (transport (λ i. All (LeadsOn c n day (sym (day_kept day (omega arith)) i) (sym day_set i)) (offers day)) here)

-- ---- the row, read forward

-- the first choices of the row are read, and the others are those of the best row from this state on
pub record IsReadTo (c : Meaning) (n scale : ℕ) (offers : ℕ → List Offer) (day : ℕ) (s : Summary) (row : Row) (best : List Offer) : Type 0 where
  pub cost : ℕ
  pub rest : List Offer
  pub is : onward c n scale offers day s ≡ Some (cost, rest)
  pub low : cost < no_row
  pub split : choices_of best ≡ take day row ++ choices_of rest

module _ (c : Meaning) (n scale : ℕ) (offers : ℕ → List Offer) where
  pub read_first : (cost : ℕ) (best : List Offer) (s : Summary) (row : Row) → s ≡ summary_of c n [] → best_over_at c n scale offers ≡ Some (cost, best) → cost < no_row → IsReadTo c n scale offers 0 s row best
  read_first cost best s row start is low = record {
    cost = cost;
    rest = best;
    is = ap (onward c n scale offers 0) start ∙ onward-first c n scale offers ∙ is;
    low = low;
    split = refl;
  }

  pub read_on : (day : ℕ) (s next : Summary) (row : Row) (choice : Choice) (best : List Offer) → day < length row → (so_far : IsReadTo c n scale offers day s row best) → BeginsWith (onward c n scale offers (day + 1)) (so_far.cost, so_far.rest) choice next → IsReadTo c n scale offers (day + 1) next (slice_set row day choice) best
  read_on day s next row choice best within so_far begins = record {
    cost = begins.cost;
    rest = begins.others;
    is = begins.goes_on;
    low = omega (arith, begins.below, so_far.low);
    split =
        so_far.split
        ∙ ap (λ rest. take day row ++ choices_of rest) begins.split
        ∙ ap (λ x. take day row ++ x ∷ choices_of begins.others) begins.chosen
        ∙ sym (append_assoc (take day row) (choice ∷ []) (choices_of begins.others))
        ∙ ap (λ xs. xs ++ choices_of begins.others) (sym (take_more_set row day choice within));
  }

  -- the day has a row from here on, and it is low
  module _ (day : ℕ) (within : day < day_count c) (s : Summary) (row : Row) (best : List Offer) (read : IsReadTo c n scale offers day s row best) where
    abbrev here : Priced (List Offer)
    here = best_on c (search_day n scale day) (offers day) (onward c n scale offers (day + 1)) s

    here_is : here ≡ Some (read.cost, read.rest)
    here_is = sym (ap (λ (f : BestOnward). f s) (onward-day c n scale offers day within)) ∙ read.is

    pub reads_some : IsSome here
    reads_some = ap is_some here_is

    pub reads_low : IfSome here (λ p. p.0 < no_row)
    reads_low = subst (λ (o : Priced (List Offer)). IfSome o (λ p. p.0 < no_row)) (sym here_is) read.low

  pub read_last : (s : Summary) (row : Row) (best : List Offer) → IsReadTo c n scale offers (day_count c) s row best → take (day_count c) row ≡ choices_of best
  read_last s row best read =
      let nothing_left : [] ≡ read.rest = ap (thing_or []) (sym (ap (λ (f : BestOnward). f s) (onward-last c n scale offers)) ∙ read.is) in
      sym (read.split ∙ ap (λ rest. take (day_count c) row ++ choices_of rest) (sym nothing_left) ∙ append-nil (take (day_count c) row))

-- ---- how often a label is extended at most

pub extension_is : (c : Meaning) (n : ℕ) → extension_count c n ≡ day_count c * (product (sizes_of c n) * choice_count c n)
unfolding extension_count state_count
extension_is c n = ap (λ k. k * choice_count c n) (mul_comm (state_count c n) (day_count c)) ∙ mul_assoc (day_count c) (state_count c n) (choice_count c n)

-- the boxes of a day, as they are read from the table
pub boxes_read : (boxes : List (List StateBox)) (day : ℕ) (d : List StateBox) → day < length boxes → slice_index_or boxes day d ≡ boxes_on boxes day
boxes_read boxes day d inside = get_or_default boxes day d [] inside

-- the first label is the cost of the best row
pub first_label : (c : Meaning) (n scale : ℕ) (offers : ℕ → List Offer) (s : Summary) (label cost : ℕ) (best : List Offer) → s ≡ summary_of c n [] → label ≡ label_of (onward c n scale offers 0 s) → best_over_at c n scale offers ≡ Some (cost, best) → cost < no_row → label ≡ cost
first_label c n scale offers s label cost best start is found low =
    is ∙ ap label_of (ap (onward c n scale offers 0) start ∙ onward-first c n scale offers ∙ found) ∙ omega (arith, low)

-- ---- a day that is still to be labelled is one of the search's

module _ {days : SearchDays} {d : ℕ} {later : List ℕ} {day : OpenDay} (is : IsDayOf days d later day) (within : d < day_count days.search.case.now) where
  pub opened_labels : (labels pointers : List ℕ) → AreTables day (IsReachableOn day) labels pointers → LabelsOn days d labels
  opened_labels labels pointers tables =
      labels_before days.search.case.now days.search.nurse days.search.scale (offers_on days.search.offers.now) d within (boxes_on days.boxes.now d) labels
      (transport (λ i. AreLabels (is.case_is i) (is.nurse_is i) (is.boxes i) (best_on (is.case_is i) (search_day (is.nurse_is i) (is.scale_is i) (is.day i)) (is.offers i) (onward (is.case_is i) (is.nurse_is i) (is.scale_is i) (offers_on (is.table_is i)) (is.day i + 1))) labels) tables.labels_are)

  pub opened_size : product day.days.ranges ≡ product days.ranges
  opened_size = λ i. product (is.ranges_are i)

  pub opened_pointers : (labels_old labels pointers_old pointers : List ℕ) → AreTables day (IsReachableOn day) labels pointers → KeepTables day 0 (product day.days.ranges) labels_old labels pointers_old pointers → PointersOn days (d + 1) pointers_old → PointersOn days d pointers
  opened_pointers labels_old labels pointers_old pointers tables outside before =
      let size : product day.days.ranges ≡ product (sizes_of days.search.case.now days.search.nurse) = opened_size ∙ ap product days.own_ranges in
      pointers_before days.search.case.now days.search.nurse days.search.scale (offers_on days.search.offers.now) days.boxes.now d day.first pointers_old pointers (is.first ∙ ap (λ z. d * product z) days.own_ranges)
      (transport (λ i. ArePointers (is.case_is i) (search_day (is.nurse_is i) (is.scale_is i) (is.day i)) (is.boxes i) (is.offers i) (onward (is.case_is i) (is.nurse_is i) (is.scale_is i) (offers_on (is.table_is i)) (is.day i + 1)) day.first pointers) tables.pointers_are)
      (outside_wider _ _ _ _ pointers_old pointers (omega arith) (omega (arith, size)) outside.of_pointers.others) before

  pub opened_extensions : day_extensions day ≡ extensions_on days.search.case.now days.search.nurse (offers_on days.search.offers.now) days.boxes.now d
  opened_extensions = λ i. states_on (is.case_is i) (is.nurse_is i) (is.boxes i) * length (is.offers i)

  pub opened_capacity : (labels pointers : List ℕ) → product days.ranges ≤ length labels → all_pointers days ≤ length pointers → HaveCapacity day labels pointers
  opened_capacity labels pointers labels_capacity pointers_capacity = record {
    labels_capacity = omega (arith, opened_size, labels_capacity);
    pointers_capacity = omega (arith, opened_size, is.first, pointers_capacity, mul-le (d + 1) (product days.ranges) (day_count days.search.case.now) (product days.ranges) (omega (arith, within)) (omega arith));
  }
