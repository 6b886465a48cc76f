-- The tables of a day that is still to be labelled, and of a span of its states (our own).
use Rattle.std.specs.Prelude.{◌≡◌, ◌+◌, ◌-◌, ◌*◌, ◌<◌, ◌≤◌, ◌⊎◌, ℕ, true, is_some, List, length, min, replicate, slice_index_or, take}
use Rattle.roster_instance.specs.Meaning.{contract_of}
use Rattle.roster_rules.specs.DayLaw.{weekends_more}
use Rattle.roster_rules.specs.Prefix.{Summary}
use Rattle.roster_state.specs.declared.span.Span.{Span}
use Rattle.roster_state.specs.Boxes.{InInterval, box_at}
use Rattle.roster_state.specs.Codes.{code_of, fits_sizes, product, shift_digit}
use Rattle.roster_state.specs.Transition.{with_assignments, with_weekends}
use Rattle.roster_state.specs.Spans.{IsAlike, span_state}
use Rattle.roster_state.specs.Worked.{IsWorkedDay}
use Rattle.roster_lanes.specs.Lanes.{SameOutside}
use Rattle.roster_offers.specs.declared.offer.Offer.{Offer}
use Rattle.roster_offers.specs.Cheapest.{Priced}
use Rattle.roster_tables.specs.declared.day.OpenDay.{OpenDay}
use Rattle.roster_tables.specs.declared.days.SearchDays.{SearchDays}
use Rattle.roster_tables.specs.declared.labels.SpanDay.{SpanDay}
use Rattle.roster_tables.specs.declared.strips.StripShape.{StripShape}
use Rattle.roster_tables.specs.Counts.{states_on, states_with}
use Rattle.roster_tables.specs.Days.{best_next, day_of}
use Rattle.roster_tables.specs.Strips.{StripCells}
use Rattle.roster_tables.specs.Search.{boxes_on}
use Rattle.roster_tables.specs.Tables.{AreOfLeast, BestOnward, LabelsOf, PointersOf, SearchDay, IsReachable, IsReachableLike, best_by, best_on, label_of}
use Rattle.roster_offers.specs.Lists.{no_row, offers_on}

-- ---- the day

-- it is one of these days, with its boxes, its offers, these labels of the next day, and its first pointer
-- after those of the days before it
pub record IsDayOf (days : SearchDays) (d : ℕ) (labels : List ℕ) (it : OpenDay) : Type 0 where
  pub case_is : it.days.search.case.now ≡ days.search.case.now
  pub nurse_is : it.days.search.nurse ≡ days.search.nurse
  pub scale_is : it.days.search.scale ≡ days.search.scale
  pub ranges_are : it.days.ranges ≡ days.ranges
  pub table_is : it.days.search.offers.now ≡ days.search.offers.now
  pub day : it.day ≡ d
  pub boxes : it.boxes.now ≡ boxes_on days.boxes.now d
  pub offers : it.offers.now ≡ offers_on days.search.offers.now d
  pub later : it.later.now ≡ labels
  pub first : it.first ≡ d * product days.ranges

abbrev pub the_day : OpenDay → SearchDay
the_day day = day_of day.days day.day

-- the best rows from the next day on, and from this one on
abbrev pub onward_of : OpenDay → BestOnward
onward_of day = best_next day.days day.day

abbrev pub best_from : OpenDay → BestOnward
best_from day = best_on day.days.search.case.now (the_day day) day.offers.now (onward_of day)

-- and by an offer
abbrev pub best_with : OpenDay → Summary → Offer → Priced (List Offer)
best_with day = best_by day.days.search.case.now (the_day day) (onward_of day)

-- the states that are reachable on it, and those of them that differ from one in their worked weekends and
-- assignments alone
abbrev pub IsReachableOn : OpenDay → Summary → Type 0
IsReachableOn day = IsReachable day.days.search.case.now day.days.search.nurse day.boxes.now

abbrev pub IsReachableBy : OpenDay → Summary → Summary → Type 0
IsReachableBy day group = IsReachableLike day.days.search.case.now day.days.search.nurse day.boxes.now group

-- the labels and the pointers of some states are right
pub record AreTables (day : OpenDay) (which : Summary → Type 0) (labels pointers : List ℕ) : Type 0 where
  pub labels_are : LabelsOf which day.days.search.case.now day.days.search.nurse (best_from day) labels
  pub pointers_are : PointersOf which day.days.search.case.now (the_day day) day.offers.now
      (onward_of day) day.first pointers

-- the tables have the capacity for all of the day's labels and pointers
pub record HaveCapacity (day : OpenDay) (labels pointers : List ℕ) : Type 0 where
  pub labels_capacity : product day.days.ranges ≤ length labels
  pub pointers_capacity : day.first + product day.days.ranges ≤ length pointers

-- ---- what stays

-- all but that many cells from a first one on stay, and so does the length
pub record KeepsRest (first places : ℕ) (old new : List ℕ) : Type 0 where
  pub others : SameOutside first (first + places) old new
  pub length_stays : length new ≡ length old

-- in both tables, from the code of a state on
pub record KeepTables (day : OpenDay) (code places : ℕ)
    (labels_old labels pointers_old pointers : List ℕ) : Type 0 where
  pub of_labels : KeepsRest code places labels_old labels
  pub of_pointers : KeepsRest (day.first + code) places pointers_old pointers

-- ---- a group: the states that differ in their worked weekends and assignments alone

-- it is within the ranges and the box of its last shift, and without worked weekends and assignments
pub record IsGroupOf (day : OpenDay) (group : Summary) : Type 0 where
  pub fits : fits_sizes day.days.ranges group ≡ true
  pub no_weekends : group.weekends ≡ 0
  pub no_assignments : group.assignments ≡ 0
  pub run : InInterval (box_at day.boxes.now (shift_digit group.last)).run group.run
  pub shift_run : InInterval (box_at day.boxes.now (shift_digit group.last)).shift_run group.shift_run

-- the number of its places
abbrev pub group_places : SearchDays → ℕ
group_places days = days.ranges.weekends * days.ranges.assignments

-- its extensions, and those of the whole day
abbrev pub group_extensions : OpenDay → Summary → ℕ
group_extensions day group =
    states_with day.days.search.case.now day.days.search.nurse day.boxes.now group * length day.offers.now

abbrev pub day_extensions : OpenDay → ℕ
day_extensions day =
    states_on day.days.search.case.now day.days.search.nurse day.boxes.now * length day.offers.now

-- ---- a span of states

-- the most cells that a span has, with those between its strips
abbrev pub most_places : ℕ
most_places = 1000

-- it is within the ranges, it fits into the buffer, and each of its states is reachable
pub record IsSpanOf (day : OpenDay) (span : Span) : Type 0 where
  pub fits : fits_sizes day.days.ranges span.block ≡ true
  pub without : span.block.assignments ≡ 0
  pub some_strips : 0 < span.strips
  pub some_places : span.begin < span.end
  pub weekends : span.block.weekends + span.strips ≤ day.days.ranges.weekends
  pub assignments : span.end ≤ day.days.ranges.assignments
  pub short : span.strips * day.days.ranges.assignments ≤ most_places
  pub reachable : (i b : ℕ) → i < span.strips → b < span.end - span.begin
      → IsReachableOn day (span_state span.block span.begin i b)

-- the day treats its strips alike
abbrev pub StripsAlike : OpenDay → Span → Type 0
StripsAlike day span =
    1 < span.strips
    → span.block.weekends + span.strips + weekends_more day.day (is_some span.block.last) true
    ≤ (contract_of day.days.search.case.now day.days.search.nurse).weekends + 1

-- the day treats all of its states alike
abbrev pub AllAlike : OpenDay → Span → Type 0
AllAlike day span =
    IsAlike day.days.search.case.now day.days.search.nurse day.day span.block span.strips span.begin span.end

-- its strips, in a list that begins with its first place
abbrev pub shape_of : OpenDay → Span → StripShape
shape_of day span =
    record { strips = span.strips; width = span.end - span.begin; stride = day.days.ranges.assignments }

-- the rules are the nurse's, the shape is that of the span, and the worked day is what one brings to its
-- first state
pub record IsSpanDay (day : OpenDay) (here : SpanDay) : Type 0 where
  pub rules : here.rules ≡ contract_of day.days.search.case.now day.days.search.nurse
  pub of_day : IsSpanOf day here.span
  pub alike : AllAlike day here.span
  pub shape : here.shape ≡ shape_of day here.span
  pub worked : IsWorkedDay day.days.search.case.now day.days.search.nurse day.day
      (with_assignments here.span.block here.span.begin) here.worked

-- the number of its states, and its extensions
abbrev pub states_of : Span → ℕ
states_of span = span.strips * (span.end - span.begin)

abbrev pub span_extensions : OpenDay → Span → ℕ
span_extensions day span = length day.offers.now * states_of span

-- the number of its cells, with those between its strips, which begin a block apart
abbrev pub places_of : OpenDay → Span → ℕ
places_of day span = (span.strips - 1) * day.days.ranges.assignments + (span.end - span.begin)

-- the label and the pointer of the state with that many assignments are those of the least of some offers
abbrev pub LeastFrom : OpenDay → Summary → List Offer → ℕ → ℕ → ℕ → Type 0
LeastFrom day s offers a label pointer =
    AreOfLeast (best_with day (with_assignments s a)) offers label pointer

-- the labels and the pointers of a span by some offers, in two lists that begin with its first place
abbrev pub CellsBy : OpenDay → Span → List Offer → List ℕ → List ℕ → Type 0
CellsBy day span offers labels pointers =
    (i b : ℕ) → i < span.strips → b < span.end - span.begin
    → LeastFrom day (with_weekends span.block (span.block.weekends + i)) offers (span.begin + b)
    (slice_index_or labels (i * day.days.ranges.assignments + b) 0)
    (slice_index_or pointers (i * day.days.ranges.assignments + b) 0)

-- two lists have its length
pub record HaveLength (day : OpenDay) (span : Span) (labels numbers : List ℕ) : Type 0 where
  pub labels_length : length labels ≡ places_of day span
  pub numbers_length : length numbers ≡ places_of day span

-- where an offer leads from it: from each state to the label that is as far from a first one, with this cost
-- added
pub record AreLabelsBy (day : OpenDay) (span : Span) (place first dearer : ℕ) : Type 0 where
  pub offer : Offer
  pub read : slice_index_or day.offers.now place offer ≡ offer
  pub within : first + places_of day span ≤ length day.later.now
  pub few : dearer < no_row
  pub low : (i b : ℕ) → i < span.strips → b < span.end - span.begin
      → slice_index_or day.later.now (first + (i * day.days.ranges.assignments + b)) 0 ≤ no_row
  pub labels : (i b : ℕ) → i < span.strips → b < span.end - span.begin
      → min (dearer + slice_index_or day.later.now (first + (i * day.days.ranges.assignments + b)) 0) no_row
      ≡ label_of (best_with day (span_state span.block span.begin i b) offer)

-- the offer is allowed from none of its states
abbrev pub AreRefusedBy : OpenDay → Span → ℕ → Type 0
AreRefusedBy day span place =
    (i b : ℕ) (d : Offer) → i < span.strips → b < span.end - span.begin → no_row ≡ label_of
    (best_with day (span_state span.block span.begin i b) (slice_index_or day.offers.now place d))

-- two lists keep their lengths
pub record KeepLengths (labels_old labels numbers_old numbers : List ℕ) : Type 0 where
  pub of_labels : length labels ≡ length labels_old
  pub of_numbers : length numbers ≡ length numbers_old

-- the numbers in its strips fit into half a byte each
abbrev pub AreHalfBytes : OpenDay → Span → List ℕ → Type 0
AreHalfBytes day span numbers = StripCells (shape_of day span) (λ j number. number < 16) numbers

-- the labels and the numbers of a span by that many offers
pub record IsLowered (day : OpenDay) (span : Span) (count : ℕ) (labels numbers : List ℕ) : Type 0 where
  pub cells : CellsBy day span (take count day.offers.now) labels numbers
  pub small : AreHalfBytes day span numbers

-- none of that many offers is allowed there: no row goes on by them
abbrev pub NoneYet : OpenDay → Span → (count long : ℕ) → Type 0
NoneYet day span count long =
    CellsBy day span (take count day.offers.now) (replicate long no_row) (replicate long 0)

-- the labels and the pointers of a span by all offers, in the tables of the day
abbrev pub SpanCells : OpenDay → Span → List ℕ → List ℕ → Type 0
SpanCells day span labels pointers =
    (i a : ℕ) → i < span.strips → span.begin ≤ a → a < span.end
    → LeastFrom day (with_weekends span.block (span.block.weekends + i)) day.offers.now a
    (slice_index_or labels (code_of day.days.ranges span.block + (i * day.days.ranges.assignments + a)) 0)
    (slice_index_or pointers
    (day.first + code_of day.days.ranges span.block + (i * day.days.ranges.assignments + a)) 0)

-- in its blocks the places before its first one and after its last are the old ones
abbrev pub PlacesKept : OpenDay → Span → ℕ → (old new : List ℕ) → Type 0
PlacesKept day span first old new =
    (i a : ℕ) → i < span.strips → a < day.days.ranges.assignments → (a < span.begin) ⊎ (span.end ≤ a)
    → slice_index_or new (first + (i * day.days.ranges.assignments + a)) 0
    ≡ slice_index_or old (first + (i * day.days.ranges.assignments + a)) 0

-- the tables stay but for its blocks
abbrev pub KeepOutside : OpenDay → Span → (labels_old labels pointers_old pointers : List ℕ) → Type 0
KeepOutside day span labels_old labels pointers_old pointers =
    KeepTables day (code_of day.days.ranges span.block)
    (span.strips * day.days.ranges.assignments) labels_old labels pointers_old pointers

-- its numbers are written to its pointers, and nothing else is
pub record ArePointersPut (day : OpenDay) (span : Span) (numbers old new : List ℕ) : Type 0 where
  pub inside : (i b : ℕ) → i < span.strips → b < span.end - span.begin → slice_index_or new
      (day.first + code_of day.days.ranges span.block + span.begin + (i * day.days.ranges.assignments + b)) 0
      ≡ slice_index_or numbers (i * day.days.ranges.assignments + b) 0
  pub kept : PlacesKept day span (day.first + code_of day.days.ranges span.block) old new
  pub outside : KeepsRest (day.first + code_of day.days.ranges span.block)
      (span.strips * day.days.ranges.assignments) old new

-- it is written to its cells, and nothing else is: what is between its strips stays
pub record IsPut (day : OpenDay) (span : Span)
    (labels_old labels pointers_old pointers : List ℕ) : Type 0 where
  pub least : SpanCells day span labels pointers
  pub labels_kept : PlacesKept day span (code_of day.days.ranges span.block) labels_old labels
  pub pointers_kept
      : PlacesKept day span (day.first + code_of day.days.ranges span.block) pointers_old pointers
  pub outside : KeepOutside day span labels_old labels pointers_old pointers
