-- The tables of a day: at the code of each state its label, the cost of the best row from there on, and its
-- pointer, the index of the offer with which that row begins. Costs are in the parts of a point of the
-- search's scale (our own).
use Rattle.std.specs.Prelude.{◌≡◌, ◌+◌, ◌<◌, ◌≤◌, ℕ, true, List, [], ◌∷◌, ◌++◌, length, min, Some, None, slice_index_or}
use Rattle.roster_instance.specs.declared.choice.Choice.{Choice}
use Rattle.roster_instance.specs.Choices.{shift_of}
use Rattle.roster_instance.specs.Meaning.{Meaning}
use Rattle.roster_rules.specs.Prefix.{Summary}
use Rattle.roster_state.specs.declared.state_box.StateBox.{StateBox}
use Rattle.roster_state.specs.Boxes.{InBox, box_at}
use Rattle.roster_state.specs.Codes.{Sizes, code_of, fits_sizes, shift_digit, sizes_of}
use Rattle.roster_state.specs.Reachable.{can_be}
use Rattle.roster_state.specs.Transition.{transition_of}
use Rattle.roster_offers.specs.declared.offer.Offer.{Offer}
use Rattle.roster_offers.specs.ByStates.{best_after}
use Rattle.roster_offers.specs.Cheapest.{Priced, cheapest}
use Rattle.roster_offers.specs.Offers.{end_cost_at, offer_transition_at}
pub use Rattle.roster_offers.specs.Lists.{IsOfferAt, most_price_at, no_row}

-- the label that a best row gives
abbrev pub label_of : {X : Type 0} → Priced X → ℕ
label_of None = no_row
label_of (Some best) = min best.0 no_row

-- ---- a day of a search

-- for each state the best row from it on, if any
abbrev pub BestOnward : Type 0
BestOnward = Summary → Priced (List Offer)

-- the nurse, the scale and the day
pub record SearchDay : Type 0 where
  pub nurse : ℕ
  pub scale : ℕ
  pub day : ℕ

-- the best row from a state on that begins with an offer, given the best rows from the next day on
abbrev pub best_by : Meaning → SearchDay → BestOnward → Summary → Offer → Priced (List Offer)
best_by c at later s offer = best_after offer (offer_transition_at c at.nurse at.scale at.day s offer) later

-- the best row from a state on, over all offers of the day
abbrev pub best_on : Meaning → SearchDay → List Offer → BestOnward → BestOnward
best_on c at offers later s = cheapest (best_by c at later s) offers

-- after the last day
abbrev pub best_at_end : Meaning → (n scale : ℕ) → BestOnward
best_at_end c n scale s = Some (end_cost_at c n scale s, [])

-- ---- the tables

-- the states for which a day's tables are right: those whose numbers are in range, and in the box of their
-- last shift, without those that no row leads to
pub record IsReachable (c : Meaning) (n : ℕ) (boxes : List StateBox) (s : Summary) : Type 0 where
  pub fits : fits_sizes (sizes_of c n) s ≡ true
  pub can_be : can_be c n s ≡ true
  pub inside : InBox (box_at boxes (shift_digit s.last)) s

-- from a state that is reachable on the day an offer leads, if it is allowed, to one that is reachable after
-- it
abbrev pub LeadsOn : Meaning → (n d : ℕ) → (boxes after : List StateBox) → Offer → Type 0
LeadsOn c n d boxes after offer =
    (s : Summary) (t : Summary × ℕ) → IsReachable c n boxes s
    → transition_of c n d s (shift_of offer.choice) ≡ Some t → IsReachable c n after t.0

-- at the code of each of some states a table holds what is right for it
abbrev pub CellsOf : (Summary → Type 0) → Sizes → (Summary → ℕ → Type 0) → (ℕ → ℕ) → List ℕ → Type 0
CellsOf which z right place cells =
    (s : Summary) → which s → right s (slice_index_or cells (place (code_of z s)) 0)

-- the labels of some states
abbrev pub LabelsOf : (Summary → Type 0) → Meaning → ℕ → BestOnward → List ℕ → Type 0
LabelsOf which c n best labels =
    CellsOf which (sizes_of c n) (λ s label. label ≡ label_of (best s)) (λ code. code) labels

-- the labels of all reachable states are right
abbrev pub AreLabels : Meaning → ℕ → List StateBox → BestOnward → List ℕ → Type 0
AreLabels c n boxes best labels = LabelsOf (IsReachable c n boxes) c n best labels

-- at the pointer's index is an offer with which the best row begins
pub record PointsToBest {O X : Type 0} (by : O → Priced X) (offers : List O) (row : ℕ × X)
    (pointer : ℕ) : Type 0 where
  pub front : List O
  pub offer : O
  pub back : List O
  pub split : offers ≡ front ++ offer ∷ back
  pub place : pointer ≡ length front
  pub best : by offer ≡ Some row

-- if there is a row below no_row
abbrev pub PointsWhereBest : {O X : Type 0} → (O → Priced X) → List O → Priced X → ℕ → Type 0
PointsWhereBest {O} {X} by offers best pointer =
    (row : ℕ × X) → best ≡ Some row → row.0 < no_row → PointsToBest by offers row pointer

-- the label and the pointer of the least of some offers, of equal ones the first
pub record AreOfLeast {O X : Type 0} (by : O → Priced X) (offers : List O) (label pointer : ℕ) : Type 0 where
  pub least : label ≡ label_of (cheapest by offers)
  pub points : PointsWhereBest by offers (cheapest by offers) pointer

-- the pointers of some states, from a first place on
abbrev pub PointersOf : (Summary → Type 0) → Meaning → SearchDay → List Offer → BestOnward → ℕ
    → List ℕ → Type 0
PointersOf which c at offers later first pointers =
    CellsOf which (sizes_of c at.nurse) (λ s. PointsWhereBest (best_by c at later s) offers
    (best_on c at offers later s)) (λ code. first + code) pointers

-- the pointers of all reachable states are right
abbrev pub ArePointers : Meaning → SearchDay → List StateBox → List Offer → BestOnward → ℕ → List ℕ → Type 0
ArePointers c at boxes offers later first pointers =
    PointersOf (IsReachable c at.nurse boxes) c at offers later first pointers

-- the state is reachable, and differs from another one in its worked weekends and assignments alone
pub record IsReachableLike (c : Meaning) (n : ℕ) (boxes : List StateBox) (group s : Summary) : Type 0 where
  pub reachable : IsReachable c n boxes s
  pub last : s.last ≡ group.last
  pub run : s.run ≡ group.run
  pub shift_run : s.shift_run ≡ group.shift_run

-- the best row begins with this choice, and goes on from the next state with the best row there
pub record BeginsWith (later : BestOnward) (row : ℕ × List Offer) (choice : Choice)
    (next : Summary) : Type 0 where
  pub offer : Offer
  pub others : List Offer
  pub cost : ℕ
  pub split : row.1 ≡ offer ∷ others
  pub chosen : offer.choice ≡ choice
  pub goes_on : later next ≡ Some (cost, others)
  pub below : cost ≤ row.0
