-- A search over a table of offers: its days, and how many states it goes over (our own).
use Rattle.std.specs.Prelude.{ℕ, ◌+◌, ◌-◌, ◌*◌, ◌<◌, ◌≤◌, All, List, [], length, slice_index_or}
use Rattle.roster_instance.specs.Meaning.{Meaning, day_count}
use Rattle.roster_instance.specs.Counting.{sum_below}
use Rattle.roster_rules.specs.Prefix.{Summary, summary_of}
use Rattle.roster_state.specs.declared.state_box.StateBox.{StateBox}
use Rattle.roster_state.specs.Codes.{product, sizes_of}
use Rattle.roster_offers.specs.declared.offer.Offer.{Offer}
use Rattle.roster_offers.specs.Offers.{best_of_offers_at}
use Rattle.roster_tables.specs.Counts.{states_on}
use Rattle.roster_tables.specs.Tables.{ArePointers, BestOnward, LeadsOn, SearchDay, IsReachable}
pub use Rattle.roster_offers.specs.Lists.{AreDayOffersAt, AreOffersAt, IsFound, best_over_at, offers_on}
pub use Rattle.roster_offers.specs.Workspaces.{HasTables, TableCapacity}

-- ---- the days of a search

-- a day of the search for a nurse
abbrev pub search_day : (n scale day : ℕ) → SearchDay
search_day n scale day = record { nurse = n; scale = scale; day = day }

-- the best row from a day and a state on
abbrev pub onward : Meaning → (n scale : ℕ) → (ℕ → List Offer) → ℕ → BestOnward
onward c n scale offers day s = best_of_offers_at c n scale offers (day_count c - day) day s

-- the boxes of a day
abbrev pub boxes_on : List (List StateBox) → ℕ → List StateBox
boxes_on boxes day = slice_index_or boxes day []

-- each day's offers lead from its boxes to those of the next day
abbrev pub BoxesLead : Meaning → ℕ → (ℕ → List Offer) → List (List StateBox) → Type 0
BoxesLead c n offers boxes =
    (day : ℕ) → day < day_count c
    → All (LeadsOn c n day (boxes_on boxes day) (boxes_on boxes (day + 1))) (offers day)

-- the extensions of a search on a day: one of each reachable state by each of the day's offers
abbrev pub extensions_on : Meaning → ℕ → (ℕ → List Offer) → List (List StateBox) → ℕ → ℕ
extensions_on c n offers boxes day = states_on c n (boxes_on boxes day) * length (offers day)

-- and on all days
abbrev pub reachable_extensions : Meaning → ℕ → (ℕ → List Offer) → List (List StateBox) → ℕ
reachable_extensions c n offers boxes = sum_below (day_count c) (extensions_on c n offers boxes)

-- boxes in which the nurse's rows stay, from the start on: on the first day no other state is in them. There
-- is one more list than days.
pub record AreReachable (c : Meaning) (n : ℕ) (offers : ℕ → List Offer)
    (boxes : List (List StateBox)) : Type 0 where
  pub start : IsReachable c n (boxes_on boxes 0) (summary_of c n [])
  pub first : states_on c n (boxes_on boxes 0) ≤ 1
  pub lead : BoxesLead c n offers boxes
  pub long : day_count c < length boxes

-- a state that is reachable in these boxes
pub record SomeReachable (c : Meaning) (n : ℕ) (boxes : List StateBox) : Type 0 where
  pub state : Summary
  pub reachable : IsReachable c n boxes state

-- the pointers of each day from one on are right: indices of these offers. The days follow one another.
abbrev pub PointersFrom : Meaning → (n scale : ℕ) → (ℕ → List Offer) → List (List StateBox) → ℕ → List ℕ
    → Type 0
PointersFrom c n scale offers boxes first pointers =
    (day : ℕ) → first ≤ day → day < day_count c → ArePointers c (search_day n scale day) (boxes_on boxes day)
    (offers day) (onward c n scale offers (day + 1)) (day * product (sizes_of c n)) pointers
