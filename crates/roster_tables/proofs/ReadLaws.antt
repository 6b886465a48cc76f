-- The best row begins with the offer that its pointer gives, and goes on from the state after it.
use Rattle.std.proofs.Common.{◌≡◌, ◌∙◌, ◌+◌, ◌*◌, ◌<◌, ℕ, Bool, true, false, ap, arith, refl, sym, List, [], ◌∷◌, length, length-append, slice_index_or, subst, Option, Some, None, IfSome, IsSome, if◌then◌else◌}
use Rattle.std.proofs.lemmas.Bool.{true≢false}
use Rattle.std.proofs.Math.Seq.{get_or-append_seam}
use Rattle.roster_instance.specs.declared.choice.Shift.{Shift}
use Rattle.roster_instance.specs.Choices.{shift_of}
use Rattle.roster_instance.specs.Meaning.{Meaning, day_count, forbids}
use Rattle.roster_rules.specs.Prefix.{Summary}
use Rattle.roster_state.specs.declared.state_box.StateBox.{StateBox}
use Rattle.roster_state.specs.Codes.{code_of, product, sizes_of}
use Rattle.roster_state.specs.Transition.{next_of, transition_cost, transition_of}
use Rattle.roster_offers.specs.declared.offer.Offer.{Offer}
use Rattle.roster_offers.specs.ByStates.{best_after}
use Rattle.roster_offers.specs.Cheapest.{Priced, raised}
use Rattle.roster_offers.specs.Offers.{dearer, scaled}
use Rattle.roster_offers.proofs.Cheapest.{cost_or, thing_or}
use Rattle.roster_offers.proofs.LowRows.{LowRow}
use Rattle.roster_offers.specs.Lists.{no_row, offers_on}
use Rattle.roster_tables.specs.declared.days.SearchDays.{SearchDays}
use Rattle.roster_tables.specs.Days.{PointersOn, IsReachableIn, best_here, best_next, day_of}
use Rattle.roster_tables.specs.Search.{boxes_on}
use Rattle.roster_tables.specs.Tables.{ArePointers, BeginsWith, BestOnward, LeadsOn, PointsToBest, SearchDay, IsReachable, best_by, best_on}

-- the state after a transition, if it is allowed
abbrev following : {S : Type 0} → Bool → S → Option S
following forbidden next = if forbidden then None else Some next

module _ (scale : ℕ) (later : BestOnward) (offer : Offer) (row : ℕ × List Offer) (reached : Summary) (cost : ℕ) where
  abbrev by : Bool → Priced (List Offer)
  by forbidden = best_after offer (dearer offer.price (scaled scale (if forbidden then None else Some (reached, cost)))) later

  begins : (forbidden : Bool) (next : Summary) → by forbidden ≡ Some row → following forbidden reached ≡ Some next → BeginsWith later row offer.choice next
  begins true next best is = absurd cc
  begins false next best is = go (later reached) refl best
    where
      go : (p : Priced (List Offer)) → later reached ≡ p → raised (offer.price + scale * cost) (λ rest. offer ∷ rest) p ≡ Some row → BeginsWith later row offer.choice next
      go None found e = absurd cc
      go (Some p) found e =
          let state : reached ≡ next = cc in
          let total : offer.price + scale * cost + p.0 ≡ row.0 = ap (cost_or 0) e in
          record {
            offer = offer;
            others = p.1;
            cost = p.0;
            split = sym (ap (thing_or []) e);
            chosen = refl;
            goes_on = ap later (sym state) ∙ found;
            below = omega (arith, total);
          }

  goes_on : (forbidden : Bool) → by forbidden ≡ Some row → following forbidden reached ≡ None → ⊥
  goes_on true best is = absurd cc
  goes_on false best is = absurd cc

-- ---- where the pointer leads

pub low_row : {X : Type 0} (p : Priced X) → IsSome p → IfSome p (λ row. row.0 < no_row) → LowRow p
low_row None some low = elim (true≢false (sym some)) [ ]
low_row (Some row) some low = record { row = row; is = refl; low = low }

pub low_of : {X : Type 0} (p : Priced X) (row : ℕ × X) → p ≡ Some row → IfSome p (λ r. r.0 < no_row) → row.0 < no_row
low_of {X} p row is low = subst (λ (q : Priced X). IfSome q (λ r. r.0 < no_row)) is low

pub pointer_within : {O X : Type 0} (by : O → Priced X) (offers : List O) (row : ℕ × X) (pointer : ℕ) → PointsToBest by offers row pointer → pointer < length offers
pointer_within by offers row pointer points =
    omega (arith, points.place, ap length points.split, length-append points.front (points.offer ∷ points.back))

pub points_at : (c : Meaning) (at : SearchDay) (boxes : List StateBox) (offers : List Offer) (later : BestOnward) (first : ℕ) (pointers : List ℕ) → ArePointers c at boxes offers later first pointers
    → (s : Summary) (code : ℕ) → code ≡ code_of (sizes_of c at.nurse) s → IsReachable c at.nurse boxes s
    → (row : ℕ × List Offer) → best_on c at offers later s ≡ Some row → row.0 < no_row → PointsToBest (best_by c at later s) offers row (slice_index_or pointers (first + code) 0)
points_at c at boxes offers later first pointers right s code is reachable row best low =
    subst (λ k. PointsToBest (best_by c at later s) offers row (slice_index_or pointers (first + k) 0)) (sym is) (right s reachable row best low)

-- the state after an allowed choice is reachable after the day
module _ (c : Meaning) (n d : ℕ) (s next : Summary) (shift : Option Shift) where
  abbrev cost : ℕ
  cost = transition_cost c n d s shift

  abbrev taken : Summary × ℕ
  taken = (next, cost)

  abbrev transition : Bool → Option (Summary × ℕ)
  transition b = if b then None else Some (next_of c n d s shift, cost)

  transition_is : (b : Bool) → Some next ≡ (if b then None else Some (next_of c n d s shift)) → transition b ≡ Some taken
  transition_is true e = absurd cc
  transition_is false e = let same : next ≡ next_of c n d s shift = cc in λ i. Some (sym same i, cost)

  pub after_reachable : (boxes following : List StateBox) (offer : Offer) → LeadsOn c n d boxes following offer → IsReachable c n boxes s → shift ≡ shift_of offer.choice
      → Some next ≡ (if forbids c.successions s.last shift then None else Some (next_of c n d s shift)) → IsReachable c n following next
  after_reachable boxes following offer leads reachable is found = leads s taken reachable (ap (λ (x : Option Shift). transition_of c n d s x) (sym is) ∙ transition_is (forbids c.successions s.last shift) found)

-- ---- what is read there

module _ (c : Meaning) (at : SearchDay) (later : BestOnward) (s : Summary) (offers : List Offer) (row : ℕ × List Offer) (pointer : ℕ) (points : PointsToBest (best_by c at later s) offers row pointer) (d : Offer) where
  abbrev read : Offer
  read = slice_index_or offers pointer d

  same : read ≡ points.offer
  same = (λ i. slice_index_or (points.split i) (points.place i) d) ∙ get_or-append_seam points.front points.offer points.back d

  best : best_by c at later s read ≡ Some row
  best = ap (best_by c at later s) same ∙ points.best

  abbrev next_by : Option Shift → Option Summary
  next_by shift = if forbids c.successions s.last shift then None else Some (next_of c at.nurse at.day s shift)

  module _ (shift : Option Shift) (is : shift ≡ shift_of read.choice) (o : Option Summary) (after : o ≡ next_by shift) where
    reached : next_by (shift_of read.choice) ≡ o
    reached = ap next_by (sym is) ∙ sym after

    pub read_begins : (next : Summary) → o ≡ Some next → BeginsWith later row read.choice next
    read_begins next found =
        begins at.scale later read row (next_of c at.nurse at.day s (shift_of read.choice)) (transition_cost c at.nurse at.day s (shift_of read.choice)) (forbids c.successions s.last (shift_of read.choice)) next best (reached ∙ found)

    pub read_goes_on : o ≡ None → ⊥
    read_goes_on found = goes_on at.scale later read row (next_of c at.nurse at.day s (shift_of read.choice)) (transition_cost c at.nurse at.day s (shift_of read.choice)) (forbids c.successions s.last (shift_of read.choice)) best (reached ∙ found)

-- ---- what is read on a day of a search

pub points_here : (days : SearchDays) (d : ℕ) → d < day_count days.search.case.now → (s : Summary) → IsReachableIn days d s → (pointers : List ℕ) → PointersOn days 0 pointers → (first code : ℕ) → first ≡ d * product days.ranges → code ≡ code_of days.ranges s
    → (row : ℕ × List Offer) → best_here days d s ≡ Some row → row.0 < no_row → PointsToBest (best_by days.search.case.now (day_of days d) (best_next days d) s) (offers_on days.search.offers.now d) row (slice_index_or pointers (first + code) 0)
points_here days d within s reachable pointers right first code first_is code_is row is low =
    let place : d * product (sizes_of days.search.case.now days.search.nurse) ≡ first = sym (first_is ∙ ap (λ z. d * product z) days.own_ranges) in
    subst (λ k. PointsToBest (best_by days.search.case.now (day_of days d) (best_next days d) s) (offers_on days.search.offers.now d) row (slice_index_or pointers (k + code) 0)) place
    (points_at days.search.case.now (day_of days d) (boxes_on days.boxes.now d) (offers_on days.search.offers.now d) (best_next days d) (d * product (sizes_of days.search.case.now days.search.nurse)) pointers (right d (omega arith) within) s code
    (code_is ∙ ap (λ z. code_of z s) days.own_ranges) reachable row is low)
