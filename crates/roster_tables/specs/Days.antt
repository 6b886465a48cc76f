-- A day of a search that is still to be labelled: what the search knows of it (our own).
use Rattle.std.specs.Prelude.{◌≡◌, ◌+◌, ◌*◌, ◌<◌, ◌≤◌, ℕ, All, List, length, slice_index_or}
use Rattle.roster_instance.specs.Counting.{sum_below}
use Rattle.roster_instance.specs.Meaning.{day_count}
use Rattle.roster_rules.specs.Prefix.{Summary}
use Rattle.roster_state.specs.declared.state_box.StateBox.{StateBox}
use Rattle.roster_state.specs.Codes.{code_of, product}
use Rattle.roster_state.specs.Transition.{with_assignments}
use Rattle.roster_offers.specs.declared.offer.Offer.{Offer}
use Rattle.roster_offers.specs.Cheapest.{Priced}
use Rattle.roster_offers.specs.Lists.{IsOfferAt, best_over_at, offers_on}
use Rattle.roster_tables.specs.declared.days.SearchDays.{SearchDays}
use Rattle.roster_tables.specs.Search.{PointersFrom, boxes_on, onward, search_day, extensions_on}
use Rattle.roster_tables.specs.Tables.{AreLabels, BestOnward, LabelsOf, LeadsOn, SearchDay, IsReachable, best_at_end, best_on, label_of}

-- a day of a search
abbrev pub day_of : SearchDays → ℕ → SearchDay
day_of days d = search_day days.search.nurse days.search.scale d

-- a state that is reachable on it
abbrev pub IsReachableIn : SearchDays → ℕ → Summary → Type 0
IsReachableIn days d s = IsReachable days.search.case.now days.search.nurse (boxes_on days.boxes.now d) s

-- the boxes of the next day
abbrev pub boxes_next : SearchDays → ℕ → List StateBox
boxes_next days d = boxes_on days.boxes.now (d + 1)

-- the best rows from the next day on
abbrev pub best_next : SearchDays → ℕ → BestOnward
best_next days d =
    onward days.search.case.now days.search.nurse days.search.scale (offers_on days.search.offers.now) (d + 1)

-- the best row from a state on, over the day's offers
abbrev pub best_here : SearchDays → ℕ → BestOnward
best_here days d =
    best_on days.search.case.now (day_of days d) (offers_on days.search.offers.now d) (best_next days d)

-- the best row of all days
abbrev pub best_of_days : SearchDays → Priced (List Offer)
best_of_days days =
    best_over_at days.search.case.now days.search.nurse days.search.scale (offers_on days.search.offers.now)

-- the labels of a day are right, and the pointers of each day from one on
abbrev pub LabelsOn : SearchDays → ℕ → List ℕ → Type 0
LabelsOn days d labels =
    AreLabels days.search.case.now days.search.nurse (boxes_on days.boxes.now d)
    (onward days.search.case.now days.search.nurse days.search.scale (offers_on days.search.offers.now) d)
    labels

abbrev pub PointersOn : SearchDays → ℕ → List ℕ → Type 0
PointersOn days d pointers =
    PointersFrom days.search.case.now days.search.nurse days.search.scale
    (offers_on days.search.offers.now) days.boxes.now d pointers

-- how many pointers all days have
abbrev pub all_pointers : SearchDays → ℕ
all_pointers days = day_count days.search.case.now * product days.ranges

-- the extensions of the first days, up to one
abbrev pub extensions_below : SearchDays → ℕ → ℕ
extensions_below days d =
    sum_below d
    (extensions_on days.search.case.now days.search.nurse (offers_on days.search.offers.now) days.boxes.now)

-- the day is one of the case's, its offers lead from its boxes to those of the next day, and the labels of
-- the next day are right
pub record IsReady (days : SearchDays) (d : ℕ) (boxes : List StateBox) (offers : List Offer)
    (labels : List ℕ) : Type 0 where
  pub day : d < day_count days.search.case.now
  pub few : length offers ≤ 16
  pub of_case : All (IsOfferAt days.search.case.now days.search.scale) offers
  pub leads : All (LeadsOn days.search.case.now days.search.nurse d boxes (boxes_next days d)) offers
  pub later : AreLabels days.search.case.now days.search.nurse (boxes_next days d) (best_next days d) labels
  pub capacity : product days.ranges ≤ length labels

-- the labels of some states after the last day
abbrev pub EndLabels : (Summary → Type 0) → SearchDays → List ℕ → Type 0
EndLabels which days labels =
    LabelsOf which days.search.case.now days.search.nurse
    (best_at_end days.search.case.now days.search.nurse days.search.scale) labels

-- that many labels of a block
abbrev pub BlockLabels : SearchDays → Summary → ℕ → List ℕ → Type 0
BlockLabels days block count labels =
    (a : ℕ) → a < count → slice_index_or labels (code_of days.ranges block + a) 0
    ≡ label_of (best_at_end days.search.case.now days.search.nurse days.search.scale
    (with_assignments block a))
