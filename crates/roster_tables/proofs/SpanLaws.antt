-- A span: the places of consecutive blocks, by one more offer.
use Rattle.std.proofs.Common.{◌≡◌, ◌∙◌, ◌+◌, ◌-◌, ◌*◌, ◌%◌, ◌^◌, ◌<◌, ◌≤◌, ◌⊎◌, ℕ, Bool, inl, inr, true, false, ap, arith, below_more, refl, subst, sym, List, length, min, nat_lt, if◌then◌else◌, slice_index_or, take, Option, Some, None}
use Rattle.std.proofs.Math.Nat.{mod-eq_of_lt}
use Rattle.std.proofs.Math.Path.{transport}
use Rattle.std.proofs.lemmas.Bool.{cases_lt}
use Rattle.std.proofs.lemmas.List.{get_or_default}
use Rattle.std.proofs.lemmas.List.Elements.{All-get_or}
use Rattle.std.proofs.lemmas.Nat.{mul-le}
use Rattle.roster_instance.specs.declared.choice.Shift.{Shift}
use Rattle.roster_instance.specs.Choices.{shift_of}
use Rattle.roster_rules.specs.Prefix.{Summary}
use Rattle.roster_state.specs.declared.span.Span.{Span}
use Rattle.roster_state.specs.Boxes.{box_at}
use Rattle.roster_state.specs.Codes.{Sizes, code_of, fits_sizes, product, shift_digit, sizes_of}
use Rattle.roster_state.specs.MostCosts.{most_of_transition}
use Rattle.roster_state.specs.Transition.{transition_of, with_assignments, with_weekends}
use Rattle.roster_state.specs.Spans.{moved_on, span_state}
use Rattle.roster_state.proofs.CodeLemmas.{all-fit, fits-all, numbered-within}
use Rattle.roster_lanes.specs.Lanes.{SameOutside, pointer_by, raised}
use Rattle.roster_offers.specs.declared.offer.Offer.{Offer}
use Rattle.roster_offers.specs.Lists.{no_row}
use Rattle.roster_offers.proofs.ListLaws.{no_offer}
use Rattle.roster_offers.proofs.ScaleLaws.{day_low}
use Rattle.roster_tables.specs.declared.day.OpenDay.{OpenDay}
use Rattle.roster_tables.specs.Days.{boxes_next}
use Rattle.roster_tables.specs.Halves.{IsWritten}
use Rattle.roster_tables.specs.OpenDays.{AreLabelsBy, AreRefusedBy, AreTables, IsSpanOf, KeepOutside, KeepsRest, LeastFrom, PlacesKept, CellsBy, IsReachableBy, IsReachableOn, SpanCells, best_with, most_places, onward_of, places_of, shape_of, the_day}
use Rattle.roster_tables.specs.Strips.{AreStripsIn, BetweenStripsKept, StripCells}
use Rattle.roster_tables.specs.declared.strips.StripShape.{StripShape}
use Rattle.roster_tables.specs.Tables.{AreOfLeast, IsOfferAt, LeadsOn, IsReachable, label_of}
use Rattle.roster_tables.proofs.CountLaws.{Goes}
use Rattle.roster_tables.proofs.StripLaws.{place_at}
use Rattle.roster_tables.proofs.GroupLaws.{as_place, like_code, like_place, like_weekends}
use Rattle.roster_tables.proofs.BlockLaws.{place_kept, place_lowered, place_set}
use Rattle.roster_tables.proofs.LabelLaws.{label_at-is, label_refused, transition_low}

-- ---- numbers

more_strips : (x weekends w more stride a b : ℕ) → (x * weekends + (w + more)) * stride + (a + b) ≡ (x * weekends + w) * stride + a + (more * stride + b)
more_strips x weekends w more stride a b = omega arith

-- a state with that many more worked weekends and assignments
pub code_further : (z : Sizes) (s : Summary) (more a : ℕ) → code_of z (with_assignments (with_weekends s (s.weekends + more)) (s.assignments + a)) ≡ code_of z s + (more * z.assignments + a)
unfolding code_of
code_further z s more a = more_strips ((shift_digit s.last * z.run + s.run) * z.shift_run + s.shift_run) z.weekends s.weekends more z.assignments s.assignments a

-- the same from a state without assignments
pub code_strips : (z : Sizes) (s : Summary) (first : s.assignments ≡ 0) (more a : ℕ) → code_of z (with_assignments (with_weekends s (s.weekends + more)) a) ≡ code_of z s + (more * z.assignments + a)
code_strips z s first more a =
    let is : a ≡ s.assignments + a = omega (arith, first) in
    ap (λ k. code_of z (with_assignments (with_weekends s (s.weekends + more)) k)) is ∙ code_further z s more a

-- a place of a span is within it
pub in_span : (strips width stride i b : ℕ) → i < strips → b < width → i * stride + b < (strips - 1) * stride + width
in_span strips width stride i b in_strips in_width = omega (arith, mul-le i stride (strips - 1) stride (omega (arith, in_strips)) (omega arith), in_width)

-- ---- where an offer leads

module _ (day : OpenDay) (span : Span) (place : ℕ) (inside : place < length day.offers.now) (shift : Option Shift) (chosen : shift ≡ shift_of (slice_index_or day.offers.now place no_offer).choice) where
  abbrev offer : Offer
  offer = slice_index_or day.offers.now place no_offer

  abbrev width : ℕ
  width = span.end - span.begin

  abbrev stride : ℕ
  stride = day.days.ranges.assignments

  abbrev state : ℕ → ℕ → Summary
  state i b = span_state span.block span.begin i b

  abbrev transition_on : Summary → Option Shift → Option (Summary × ℕ)
  transition_on s x = transition_of day.days.search.case.now day.days.search.nurse day.day s x

  -- it is an offer of the case, at a price within range
  pub of_case : IsOfferAt day.days.search.case.now day.days.search.scale offer
  of_case = All-get_or (IsOfferAt day.days.search.case.now day.days.search.scale) day.offers.now place no_offer inside day.ready.of_case

  by_choice : (i b : ℕ) (o : Option (Summary × ℕ)) → o ≡ transition_on (state i b) shift → transition_on (state i b) (shift_of offer.choice) ≡ o
  by_choice i b o is = sym (is ∙ ap (transition_on (state i b)) chosen)

  pub refused_by : ((i b : ℕ) → i < span.strips → b < width → None ≡ transition_on (state i b) shift) → AreRefusedBy day span place
  refused_by none i b d in_strips in_width =
      label_refused day.days.search.case.now (the_day day) (onward_of day) (state i b) offer (by_choice i b None (none i b in_strips in_width)) ∙ ap (λ x. label_of (best_with day (state i b) x)) (get_or_default day.offers.now place no_offer d inside)

  module _ (good : IsSpanOf day span) (transition : Summary × ℕ) (cost : transition.1 ≤ most_of_transition) (transitions : (i b : ℕ) → i < span.strips → b < width → Some (moved_on i b transition) ≡ transition_on (state i b) shift) (first : ℕ) (code : first ≡ code_of day.days.ranges transition.0) where
    abbrev reached : ℕ → ℕ → Summary × ℕ
    reached i b = moved_on i b transition

    reached_reachable : (i b : ℕ) → i < span.strips → b < width → IsReachable day.days.search.case.now day.days.search.nurse (boxes_next day.days day.day) (reached i b).0
    reached_reachable i b in_strips in_width =
        All-get_or (LeadsOn day.days.search.case.now day.days.search.nurse day.day day.boxes.now (boxes_next day.days day.day)) day.offers.now place no_offer inside day.ready.leads
        (state i b) (reached i b) (good.reachable i b in_strips in_width) (by_choice i b (Some (reached i b)) (transitions i b in_strips in_width))

    code_is : (i b : ℕ) → code_of day.days.ranges (reached i b).0 ≡ first + (i * stride + b)
    code_is i b = code_further day.days.ranges transition.0 i b ∙ ap (λ k. k + (i * stride + b)) (sym code)

    -- the span on the next day is within the table
    span_within : first + places_of day span ≤ length day.later.now
    span_within =
        let last_strip : span.strips - 1 < span.strips = omega (arith, good.some_strips) in
        let some : 0 < width = omega (arith, good.some_places) in
        let last_place : width - 1 < width = omega (arith, some) in
        let fits = subst (λ z. code_of z (reached (span.strips - 1) (width - 1)).0 < product z) (sym day.days.own_ranges) (numbered-within _ _ (reached_reachable (span.strips - 1) (width - 1) last_strip last_place).fits) in
        omega (arith, fits, code_is (span.strips - 1) (width - 1), some, day.ready.capacity)

    pub labels_by : AreLabelsBy day span place first (offer.price + day.days.search.scale * transition.1)
    labels_by = record {
      offer = offer;
      read = get_or_default day.offers.now place offer no_offer inside;
      within = span_within;
      few = omega (arith, day_low day.days.search.scale offer.price transition.1 day.days.search.in_scale.few of_case.price cost);
      low = λ i b in_strips in_width.
          subst (λ k. slice_index_or day.later.now k 0 ≤ no_row) (code_is i b)
          (transition_low day.days.search.case.now (the_day day) day.days.ranges day.days.own_ranges (boxes_next day.days day.day) (onward_of day) day.later.now day.ready.later (reached i b).0 (reached_reachable i b in_strips in_width));
      labels = λ i b in_strips in_width.
          ap (λ k. min (offer.price + day.days.search.scale * transition.1 + slice_index_or day.later.now k 0) no_row) (sym (code_is i b))
          ∙ label_at-is day.days.search.case.now (the_day day) day.days.ranges day.days.own_ranges (boxes_next day.days day.day) (onward_of day) day.later.now day.ready.later
          (state i b) offer (reached i b) (by_choice i b (Some (reached i b)) (transitions i b in_strips in_width)) (reached_reachable i b in_strips in_width);
    }

-- ---- by one more offer

pub cells_refused : (day : OpenDay) (span : Span) (place : ℕ) → place < length day.offers.now → AreRefusedBy day span place → (labels numbers : List ℕ) → CellsBy day span (take place day.offers.now) labels numbers → CellsBy day span (take (place + 1) day.offers.now) labels numbers
cells_refused day span place inside none labels numbers old i b in_strips in_width = place_kept (best_with day (span_state span.block span.begin i b)) day.offers.now place inside no_offer _ _ (old i b in_strips in_width) (none i b no_offer in_strips in_width)

module _ {day : OpenDay} {span : Span} {place first dearer : ℕ} (by : AreLabelsBy day span place first dearer) (inside : place < length day.offers.now) (labels numbers others labels_new numbers_new : List ℕ) (old : CellsBy day span (take place day.offers.now) labels numbers)
    (count : ℕ) (long : count ≡ places_of day span) (shown : (j : ℕ) → j < count → slice_index_or others j 0 ≡ slice_index_or day.later.now (first + j) 0) where
  module _ (i b : ℕ) (in_strips : i < span.strips) (in_width : b < span.end - span.begin) where
    abbrev j_at : ℕ
    j_at = i * day.days.ranges.assignments + b

    -- what the label becomes, at most
    abbrev candidate : ℕ
    candidate = dearer + slice_index_or day.later.now (first + j_at) 0

    there : j_at < count
    there = omega (arith, in_span span.strips (span.end - span.begin) day.days.ranges.assignments i b in_strips in_width, long)

    other_is : raised others dearer j_at ≡ candidate
    other_is =
        let sum : slice_index_or others j_at 0 + dearer ≡ candidate = omega (arith, shown j_at there) in
        ap (λ k. k % 2 ^ 32) sum ∙ mod-eq_of_lt (omega (arith, by.low i b in_strips in_width, by.few))

    label_is : min candidate no_row ≡ label_of (best_with day (span_state span.block span.begin i b) (slice_index_or day.offers.now place by.offer))
    label_is = by.labels i b in_strips in_width ∙ ap (λ x. label_of (best_with day (span_state span.block span.begin i b) x)) (sym by.read)

  pub span_lowered : StripCells (shape_of day span) (λ j label. label ≡ min (slice_index_or labels j 0) (raised others dearer j)) labels_new
      → StripCells (shape_of day span) (λ j number. number ≡ pointer_by (slice_index_or labels j 0) (raised others dearer j) (slice_index_or numbers j 0) place) numbers_new
      → CellsBy day span (take (place + 1) day.offers.now) labels_new numbers_new
  span_lowered lowered pointed i b in_strips in_width =
      let j = j_at i b in_strips in_width in
      let in_count = there i b in_strips in_width in
      let other = other_is i b in_strips in_width in
      let label = lowered i b in_strips in_width ∙ ap (λ k. min (slice_index_or labels j 0) k) other in
      let number = pointed i b in_strips in_width ∙ ap (λ k. if nat_lt k (slice_index_or labels j 0) then place else slice_index_or numbers j 0) other in
      transport (λ q. AreOfLeast (best_with day (span_state span.block span.begin i b)) (take (place + 1) day.offers.now) (sym label q) (sym number q))
      (place_lowered (best_with day (span_state span.block span.begin i b)) day.offers.now place inside by.offer (slice_index_or labels j 0) (slice_index_or numbers j 0) (old i b in_strips in_width) (candidate i b in_strips in_width) (label_is i b in_strips in_width))

  pub span_set : ((j : ℕ) → j < count → slice_index_or labels j 0 ≡ no_row) → StripCells (shape_of day span) (λ j label. label ≡ min (raised others dearer j) no_row) labels_new → StripCells (shape_of day span) (λ j number. number ≡ place) numbers_new
      → CellsBy day span (take (place + 1) day.offers.now) labels_new numbers_new
  span_set none set numbered i b in_strips in_width =
      let j = j_at i b in_strips in_width in
      let in_count = there i b in_strips in_width in
      let label = set i b in_strips in_width ∙ ap (λ k. min k no_row) (other_is i b in_strips in_width) in
      transport (λ q. AreOfLeast (best_with day (span_state span.block span.begin i b)) (take (place + 1) day.offers.now) (sym label q) (sym (numbered i b in_strips in_width) q))
      (place_set (best_with day (span_state span.block span.begin i b)) day.offers.now place inside by.offer (slice_index_or labels j 0) (slice_index_or numbers j 0) (old i b in_strips in_width) (none j in_count) (candidate i b in_strips in_width) (label_is i b in_strips in_width))

-- ---- the numbers stay small

pub small_pointed : (label candidate old new place : ℕ) → place < 16 → old < 16 → new ≡ pointer_by label candidate old place → new < 16
small_pointed label candidate old new place few small pointed = subst (λ k. k < 16) (sym pointed) (go (nat_lt candidate label))
  where
    go : (b : Bool) → (if b then place else old) < 16
    go true = few
    go false = small

-- ---- where a span is

pub one_strip_less : (strips stride : ℕ) → 0 < strips → strips * stride ≡ (strips - 1) * stride + stride
one_strip_less strips stride some =
    let next : strips ≡ strips - 1 + 1 = omega (arith, some) in
    ap (λ k. k * stride) next ∙ omega arith

-- that many blocks are within the table
pub strips_within : (z : Sizes) (s : Summary) (first : s.assignments ≡ 0) (strips : ℕ) → fits_sizes z s ≡ true → 0 < strips → s.weekends + strips ≤ z.weekends → code_of z s + strips * z.assignments ≤ product z
strips_within z s first strips fits some few =
    let f = fits-all z s fits in
    let a = z.assignments - 1 in
    let last = with_assignments (with_weekends s (s.weekends + (strips - 1))) a in
    let last_fits = all-fit z last (record { last = f.last; run = f.run; shift_run = f.shift_run; assignments = omega (arith, f.assignments); weekends = omega (arith, some, few) }) in
    omega (arith, numbered-within z last last_fits, code_strips z s first (strips - 1) a, one_strip_less strips z.assignments some, f.assignments)

-- ---- strips that are consecutive cells: one alone, or some that touch

abbrev pub AreConsecutive : (strips width stride : ℕ) → Type 0
AreConsecutive strips width stride = (strips ≡ 1) ⊎ (width ≡ stride)

-- which place of which strip a cell is
pub record StripPlace (strips width stride j : ℕ) : Type 0 where
  pub strip : ℕ
  pub place : ℕ
  pub in_strips : strip < strips
  pub inside : place < width
  pub is : strip * stride + place ≡ j

no_strip_more : (strips stride : ℕ) → strips ≡ 1 → (strips - 1) * stride ≡ 0
no_strip_more strips stride one =
    let none : strips - 1 ≡ 0 = omega (arith, one) in
    ap (λ k. k * stride) none ∙ omega arith

pub strip_place : (strips width stride j : ℕ) → 0 < strips → 0 < width → AreConsecutive strips width stride → j < (strips - 1) * stride + width → StripPlace strips width stride j
strip_place strips width stride j some wide (inl one) below = record { strip = 0; place = j; in_strips = some; inside = omega (arith, below, no_strip_more strips stride one); is = omega arith }
strip_place strips width stride j some wide (inr touch) below =
    let at = place_at strips stride j (omega (arith, wide, touch)) (omega (arith, below, one_strip_less strips stride some, touch)) in
    record { strip = at.strip; place = at.place; in_strips = at.in_strips; inside = omega (arith, at.inside, touch); is = at.is }

-- no cell outside the strips is written
pub strips_kept : (strips stride begin end code : ℕ) → begin < end → end ≤ stride → AreConsecutive strips (end - begin) stride → (old new : List ℕ) → SameOutside (code + begin) (code + begin + ((strips - 1) * stride + (end - begin))) old new
    → (i a : ℕ) → i < strips → a < stride → (a < begin) ⊎ (end ≤ a) → slice_index_or new (code + (i * stride + a)) 0 ≡ slice_index_or old (code + (i * stride + a)) 0
strips_kept strips stride begin end code some whole (inl one) old new others i a in_strips inside outside =
    let first : i ≡ 0 = omega (arith, in_strips, one) in
    let none : i * stride ≡ 0 = ap (λ k. k * stride) first ∙ omega arith in
    elim outside [
      | inl before ↦ others.before (code + (i * stride + a)) (omega (arith, none, before))
      | inr after ↦ others.after (code + (i * stride + a)) (omega (arith, none, after, some, no_strip_more strips stride one))
    ]
strips_kept strips stride begin end code some whole (inr touch) old new others i a in_strips inside outside = absurd (elim outside [ inl before ↦ omega (arith, before, touch, whole, some) | inr after ↦ omega (arith, after, inside, touch, whole, some) ])

-- a place of a span's blocks is within its blocks
pub in_strips-end : (strips stride i a : ℕ) → i < strips → a < stride → i * stride + a < strips * stride
in_strips-end strips stride i a in_strips inside = omega (arith, mul-le (i + 1) stride strips stride (omega (arith, in_strips)) (omega arith), inside)

-- its cells, in two tables
module _ (day : OpenDay) (span : Span) (block numbers labels pointers : List ℕ) where
  abbrev code_at : ℕ
  code_at = code_of day.days.ranges span.block

  pub span_moved : ((i b : ℕ) → i < span.strips → b < span.end - span.begin → slice_index_or labels (code_at + span.begin + (i * day.days.ranges.assignments + b)) 0 ≡ slice_index_or block (i * day.days.ranges.assignments + b) 0)
      → ((i b : ℕ) → i < span.strips → b < span.end - span.begin → slice_index_or pointers (day.first + code_at + span.begin + (i * day.days.ranges.assignments + b)) 0 ≡ slice_index_or numbers (i * day.days.ranges.assignments + b) 0)
      → CellsBy day span day.offers.now block numbers → SpanCells day span labels pointers
  span_moved same_label same_number old i a in_strips low high =
      let stride = day.days.ranges.assignments in
      let b = a - span.begin in
      let in_width : b < span.end - span.begin = omega (arith, low, high) in
      let place : span.begin + b ≡ a = omega (arith, low) in
      let at_code : code_at + span.begin + (i * stride + b) ≡ code_at + (i * stride + a) = omega (arith, low) in
      let at_first : day.first + code_at + span.begin + (i * stride + b) ≡ day.first + code_at + (i * stride + a) = omega (arith, low) in
      let label = sym (same_label i b in_strips in_width) ∙ ap (λ k. slice_index_or labels k 0) at_code in
      let number = sym (same_number i b in_strips in_width) ∙ ap (λ k. slice_index_or pointers k 0) at_first in
      transport (λ q. LeastFrom day (with_weekends span.block (span.block.weekends + i)) day.offers.now (place q) (label q) (number q)) (old i b in_strips in_width)

-- ---- a span is within the tables, and within the buffer

module _ {day : OpenDay} {span : Span} (good : IsSpanOf day span) where
  pub count_within : span.begin + places_of day span ≤ span.strips * day.days.ranges.assignments
  count_within = omega (arith, one_strip_less span.strips day.days.ranges.assignments good.some_strips, good.assignments, good.some_places)

  pub count_short : places_of day span ≤ most_places
  count_short = omega (arith, count_within, good.short)

  pub strips_in_table : code_of day.days.ranges span.block + span.strips * day.days.ranges.assignments ≤ product day.days.ranges
  strips_in_table = strips_within day.days.ranges span.block good.without span.strips good.fits good.some_strips good.weekends

  -- as the code computes it
  pub count_is : {stride : ℕ} → stride ≡ day.days.ranges.assignments → (span.strips - 1) * stride + (span.end - span.begin) ≡ places_of day span
  count_is is = ap (λ k. (span.strips - 1) * k + (span.end - span.begin)) is

  pub in_buffer : {stride long : ℕ} → stride ≡ day.days.ranges.assignments → most_places ≤ long → (span.strips - 1) * stride + (span.end - span.begin) ≤ long
  in_buffer is capacity = omega (arith, count_is is, count_short, capacity)

  pub in_table : {first stride long : ℕ} → first ≡ code_of day.days.ranges span.block → stride ≡ day.days.ranges.assignments → product day.days.ranges ≤ long → first + span.begin + ((span.strips - 1) * stride + (span.end - span.begin)) ≤ long
  in_table first is capacity = omega (arith, first, count_is is, count_within, strips_in_table, capacity)

  -- its strips, in a list that begins with its first place
  pub strips_of : {long : ℕ} → long ≡ places_of day span → AreStripsIn (shape_of day span) long
  strips_of is = record { apart = omega (arith, good.assignments); long_is = sym is }

  -- some of its places
  pub part_of : (begin end : ℕ) → span.begin ≤ begin → begin < end → end ≤ span.end → IsSpanOf day (record span { begin = begin; end = end })
  part_of begin end low some high = record {
    fits = good.fits;
    without = good.without;
    some_strips = good.some_strips;
    some_places = some;
    weekends = good.weekends;
    assignments = omega (arith, high, good.assignments);
    short = good.short;
    reachable = λ i b in_strips in_width.
        let place : span.begin + (begin - span.begin + b) ≡ begin + b = omega (arith, low) in
        subst (λ a. IsReachableOn day (with_assignments (with_weekends span.block (span.block.weekends + i)) a)) place (good.reachable i (begin - span.begin + b) in_strips (omega (arith, in_width, low, high)));
  }

-- ---- strips that are written one after another

pub strip_in_count : (strips width stride strip : ℕ) → strip < strips → strip * stride + width ≤ (strips - 1) * stride + width
strip_in_count strips width stride strip in_strips = omega (arith, mul-le strip stride (strips - 1) stride (omega (arith, in_strips)) (omega arith))

pub strip_end : (strips stride begin end strip : ℕ) → strip < strips → begin < end → end ≤ stride → begin + strip * stride + (end - begin) ≤ strips * stride
strip_end strips stride begin end strip in_strips some whole = omega (arith, in_strips-end strips stride strip (end - 1) in_strips (omega (arith, some, whole)), some)

-- what is between strips stays, by one more write
pub between_then : {shape strips : StripShape} → shape ≡ strips → (old cells new : List ℕ) → BetweenStripsKept shape cells new → BetweenStripsKept strips old cells → BetweenStripsKept strips old new
between_then is old cells new later same i b wide inside = (transport (λ q. BetweenStripsKept (is q) cells new) later) i b wide inside ∙ same i b wide inside

-- a strip of a span is within its places, and within the table
module _ {day : OpenDay} {span : Span} (good : IsSpanOf day span) {strip stride : ℕ} (in_strips : strip < span.strips) (is : stride ≡ day.days.ranges.assignments) where
  pub strip_is : strip * stride ≡ strip * day.days.ranges.assignments
  strip_is = ap (λ k. strip * k) is

  pub strip_in_places : strip * stride + (span.end - span.begin) ≤ places_of day span
  strip_in_places = omega (arith, strip_is, strip_in_count span.strips (span.end - span.begin) day.days.ranges.assignments strip in_strips)

  pub strip_short : {long : ℕ} → most_places ≤ long → strip * stride + (span.end - span.begin) ≤ long
  strip_short capacity = omega (arith, strip_in_places, count_short good, capacity)

  pub strip_in_table : {first long : ℕ} → first ≡ code_of day.days.ranges span.block → product day.days.ranges ≤ long → first + span.begin + strip * stride + (span.end - span.begin) ≤ long
  strip_in_table first capacity = omega (arith, first, strip_is, strip_end span.strips day.days.ranges.assignments span.begin span.end strip in_strips good.some_places good.assignments, strips_in_table good, capacity)

module _ (stride begin end code strip : ℕ) (old new : List ℕ) (whole : end ≤ stride) (others : SameOutside (code + begin + strip * stride) (code + begin + strip * stride + (end - begin)) old new) where
  pub strip_kept : (i a : ℕ) → a < stride → (a < begin) ⊎ (end ≤ a) → begin < end → slice_index_or new (code + (i * stride + a)) 0 ≡ slice_index_or old (code + (i * stride + a)) 0
  strip_kept i a inside outside some = go (cases_lt strip i) (cases_lt i strip) outside
    where
      same : Type 0
      same = slice_index_or new (code + (i * stride + a)) 0 ≡ slice_index_or old (code + (i * stride + a)) 0

      go : (strip < i) ⊎ (i ≤ strip) → (i < strip) ⊎ (strip ≤ i) → (a < begin) ⊎ (end ≤ a) → same
      go (inl after) _ _ = others.after (code + (i * stride + a)) (omega (arith, mul-le (strip + 1) stride i stride (omega (arith, after)) (omega arith), whole, some))
      go (inr from_strip) (inl before) _ = others.before (code + (i * stride + a)) (omega (arith, mul-le (i + 1) stride strip stride (omega (arith, before)) (omega arith), inside))
      go (inr from_strip) (inr to_strip) (inl before) = others.before (code + (i * stride + a)) (omega (arith, mul-le i stride strip stride from_strip (omega arith), before))
      go (inr from_strip) (inr to_strip) (inr after) = others.after (code + (i * stride + a)) (omega (arith, mul-le strip stride i stride to_strip (omega arith), after, some))

  pub strip_outside : (strips : ℕ) → strip < strips → begin < end → length new ≡ length old → KeepsRest code (strips * stride) old new
  strip_outside strips in_strips some same = record {
    others = record {
      before = λ j low. others.before j (omega (arith, low));
      after = λ j high. others.after j (omega (arith, high, mul-le (strip + 1) stride strips stride (omega (arith, in_strips)) (omega arith), whole, some));
    };
    length_stays = same;
  }

-- one more strip of numbers is written
module _ (stride begin end code strip : ℕ) (numbers old new : List ℕ) (whole : end ≤ stride) (some : begin < end) (others : SameOutside (code + begin + strip * stride) (code + begin + strip * stride + (end - begin)) old new) (here : (b : ℕ) → b < end - begin → slice_index_or new (code + begin + (strip * stride + b)) 0 ≡ slice_index_or numbers (strip * stride + b) 0) where
  pub numbers_more : ((i b : ℕ) → i < strip → b < end - begin → slice_index_or old (code + begin + (i * stride + b)) 0 ≡ slice_index_or numbers (i * stride + b) 0) → (i b : ℕ) → i < strip + 1 → b < end - begin → slice_index_or new (code + begin + (i * stride + b)) 0 ≡ slice_index_or numbers (i * stride + b) 0
  numbers_more below i b before inside =
      below_more (λ i. (b : ℕ) → b < end - begin → slice_index_or new (code + begin + (i * stride + b)) 0 ≡ slice_index_or numbers (i * stride + b) 0) strip
      (λ i before b inside. others.before (code + begin + (i * stride + b)) (omega (arith, mul-le (i + 1) stride strip stride (omega (arith, before)) (omega arith), inside, whole, some)) ∙ below i b before inside) here i before b inside

-- ---- a list that is written into another one, in which what is between strips is the old one

module _ (stride begin end code : ℕ) (whole : end ≤ stride) (some : begin < end) (block_old block old new : List ℕ) (written : IsWritten (code + begin) block old new) (read : (j : ℕ) → j < length block → slice_index_or block_old j 0 ≡ slice_index_or old (code + begin + j) 0)
    (between : (i b : ℕ) → end - begin ≤ b → b < stride → slice_index_or block (i * stride + b) 0 ≡ slice_index_or block_old (i * stride + b) 0) where
  between_kept : (i b : ℕ) → end - begin ≤ b → b < stride → slice_index_or new (code + begin + (i * stride + b)) 0 ≡ slice_index_or old (code + begin + (i * stride + b)) 0
  between_kept i b wide inside = go (cases_lt (i * stride + b) (length block))
    where
      go : (i * stride + b < length block) ⊎ (length block ≤ i * stride + b) → slice_index_or new (code + begin + (i * stride + b)) 0 ≡ slice_index_or old (code + begin + (i * stride + b)) 0
      go (inl within) = written.inside (i * stride + b) within ∙ between i b wide inside ∙ read (i * stride + b) within
      go (inr past) = written.others.after (code + begin + (i * stride + b)) (omega (arith, past))

  pub list_kept : (i a : ℕ) → a < stride → (a < begin) ⊎ (end ≤ a) → slice_index_or new (code + (i * stride + a)) 0 ≡ slice_index_or old (code + (i * stride + a)) 0
  list_kept i a inside outside = go outside (cases_lt 0 i)
    where
      same : Type 0
      same = slice_index_or new (code + (i * stride + a)) 0 ≡ slice_index_or old (code + (i * stride + a)) 0

      at_place : (k : ℕ) → code + begin + k ≡ code + (i * stride + a) → slice_index_or new (code + begin + k) 0 ≡ slice_index_or old (code + begin + k) 0 → same
      at_place k is kept = subst (λ m. slice_index_or new m 0 ≡ slice_index_or old m 0) is kept

      go : (a < begin) ⊎ (end ≤ a) → (0 < i) ⊎ (i ≤ 0) → same
      go (inr after) _ = at_place (i * stride + (a - begin)) (omega (arith, after, some)) (between_kept i (a - begin) (omega (arith, after)) (omega (arith, inside)))
      go (inl before) (inl later) =
          at_place ((i - 1) * stride + (stride + a - begin)) (omega (arith, one_strip_less i stride later, before, whole, some)) (between_kept (i - 1) (stride + a - begin) (omega (arith, whole, some)) (omega (arith, before, whole, some)))
      go (inl before) (inr first) =
          let none : i * stride ≡ 0 = let zero : i ≡ 0 = omega (arith, first) in ap (λ k. k * stride) zero ∙ omega arith in
          written.others.before (code + (i * stride + a)) (omega (arith, none, before))

-- ---- places next to those that are labelled

module _ (day : OpenDay) (span : Span) (middle end : ℕ) (labels_old pointers_old labels pointers : List ℕ) (old : SpanCells day (record span { end = middle }) labels_old pointers_old) where
  abbrev part : Span
  part = record span { begin = middle; end = end }

  abbrev part_code : ℕ
  part_code = code_of day.days.ranges span.block

  module _ (whole : middle ≤ day.days.ranges.assignments) (same_label : PlacesKept day part part_code labels_old labels) (same_number : PlacesKept day part (day.first + part_code) pointers_old pointers) (new : SpanCells day part labels pointers) where
    pub places_more : SpanCells day (record span { end = end }) labels pointers
    places_more i a in_strips low high = go (cases_lt a middle)
      where
        go : (a < middle) ⊎ (middle ≤ a)
            → LeastFrom day (with_weekends span.block (span.block.weekends + i)) day.offers.now a (slice_index_or labels (part_code + (i * day.days.ranges.assignments + a)) 0) (slice_index_or pointers (day.first + part_code + (i * day.days.ranges.assignments + a)) 0)
        go (inr there) = new i a in_strips there high
        go (inl before) =
            let inside : a < day.days.ranges.assignments = omega (arith, before, whole) in
            let label = sym (same_label i a in_strips inside (inl before)) in
            let number = sym (same_number i a in_strips inside (inl before)) in
            transport (λ q. LeastFrom day (with_weekends span.block (span.block.weekends + i)) day.offers.now a (label q) (number q)) (old i a in_strips low before)

-- what is next to them stays, too
pub kept_more : (day : OpenDay) (span : Span) (middle end first : ℕ) → span.begin ≤ middle → middle ≤ end → (old cells new : List ℕ)
    → PlacesKept day (record span { end = middle }) first old cells → PlacesKept day (record span { begin = middle; end = end }) first cells new → PlacesKept day (record span { end = end }) first old new
kept_more day span middle end first low high old cells new same later i a in_strips inside (inl before) = later i a in_strips inside (inl (omega (arith, before, low))) ∙ same i a in_strips inside (inl before)
kept_more day span middle end first low high old cells new same later i a in_strips inside (inr after) = later i a in_strips inside (inr after) ∙ same i a in_strips inside (inr (omega (arith, after, high)))

-- that many for each place and each offer, up to a place and from it on
pub places_counted : (long strips begin middle end : ℕ) → begin ≤ middle → middle < end → long * (strips * (middle - begin)) + long * (strips * (end - middle)) ≡ long * (strips * (end - begin))
places_counted long strips begin middle end low high =
    let sum : (middle - begin) + (end - middle) ≡ end - begin = omega (arith, low, high) in
    omega arith ∙ ap (λ k. long * (strips * k)) sum

pub places_room : (long strips begin end all counted most : ℕ) → end ≤ all → counted + long * (strips * (all - begin)) ≤ most → counted + long * (strips * (end - begin)) ≤ most
places_room long strips begin end all counted most few room =
    omega (arith, room, mul-le long (strips * (end - begin)) long (strips * (all - begin)) (omega arith) (mul-le strips (end - begin) strips (all - begin) (omega arith) (omega (arith, few))))

-- the same, by strips
pub strips_counted : (long first w more width : ℕ) → first ≤ w → long * ((w - first) * width) + long * (more * width) ≡ long * ((w + more - first) * width)
strips_counted long first w more width low =
    let sum : (w - first) + more ≡ w + more - first = omega (arith, low) in
    omega arith ∙ ap (λ k. long * (k * width)) sum

-- the cells of a group for the worked weekends from one number up to another
abbrev pub GroupCells : OpenDay → Summary → (begin end first to : ℕ) → List ℕ → List ℕ → Type 0
GroupCells day group begin end first to labels pointers =
    (w a : ℕ) → first ≤ w → w < to → begin ≤ a → a < end → LeastFrom day (with_weekends group w) day.offers.now a
    (slice_index_or labels (code_of day.days.ranges group + (w * day.days.ranges.assignments + a)) 0)
    (slice_index_or pointers (day.first + code_of day.days.ranges group + (w * day.days.ranges.assignments + a)) 0)

-- by that many more strips
module _ (day : OpenDay) (group : Summary) (begin end first to more : ℕ) (whole : end ≤ day.days.ranges.assignments) (labels_old pointers_old labels pointers : List ℕ) (old : GroupCells day group begin end first to labels_old pointers_old) where
  abbrev block_size : ℕ
  block_size = day.days.ranges.assignments

  abbrev group_at : ℕ
  group_at = code_of day.days.ranges group

  module _ (block : Summary) (is_block : with_weekends group to ≡ block) (code_is_more : code_of day.days.ranges block ≡ group_at + to * block_size) (outside : KeepOutside day (record { block = block; strips = more; begin = begin; end = end }) labels_old labels pointers_old pointers)
      (new : SpanCells day (record { block = block; strips = more; begin = begin; end = end }) labels pointers) where
    module _ (w a : ℕ) (low : first ≤ w) (begin_a : begin ≤ a) (to_a : a < end) where
      group_before : w < to → LeastFrom day (with_weekends group w) day.offers.now a (slice_index_or labels (group_at + (w * block_size + a)) 0) (slice_index_or pointers (day.first + group_at + (w * block_size + a)) 0)
      group_before before =
          let below = in_strips-end to block_size w a before (omega (arith, to_a, whole)) in
          let label = sym (outside.of_labels.others.before (group_at + (w * block_size + a)) (omega (arith, below, code_is_more))) in
          let number = sym (outside.of_pointers.others.before (day.first + group_at + (w * block_size + a)) (omega (arith, below, code_is_more))) in
          transport (λ q. LeastFrom day (with_weekends group w) day.offers.now a (label q) (number q)) (old w a low before begin_a to_a)

      group_here : to ≤ w → w < to + more → LeastFrom day (with_weekends group w) day.offers.now a (slice_index_or labels (group_at + (w * block_size + a)) 0) (slice_index_or pointers (day.first + group_at + (w * block_size + a)) 0)
      group_here from_w to_w =
          let i = w - to in
          let is : to + i ≡ w = omega (arith, from_w) in
          let weekends : block.weekends ≡ to = ap (λ (b : Summary). b.weekends) (sym is_block) in
          let sum : block.weekends + i ≡ w = omega (arith, weekends, is) in
          let state : with_weekends block (block.weekends + i) ≡ with_weekends group w = λ q. with_weekends (sym is_block q) (sum q) in
          let strip : to * block_size + i * block_size ≡ w * block_size = omega arith ∙ ap (λ k. k * block_size) is in
          let at_code : code_of day.days.ranges block + (i * block_size + a) ≡ group_at + (w * block_size + a) = omega (arith, strip, code_is_more) in
          let at_place : day.first + code_of day.days.ranges block + (i * block_size + a) ≡ day.first + group_at + (w * block_size + a) = omega (arith, strip, code_is_more) in
          transport (λ q. LeastFrom day (state q) day.offers.now a (slice_index_or labels (at_code q) 0) (slice_index_or pointers (at_place q) 0)) (new i a (omega (arith, from_w, to_w)) begin_a to_a)

      group_now : w < to + more → (w < to) ⊎ (to ≤ w) → LeastFrom day (with_weekends group w) day.offers.now a (slice_index_or labels (group_at + (w * block_size + a)) 0) (slice_index_or pointers (day.first + group_at + (w * block_size + a)) 0)
      group_now to_w (inl before) = group_before before
      group_now to_w (inr from_w) = group_here from_w to_w

    pub group_more : GroupCells day group begin end first (to + more) labels pointers
    group_more w a low to_w begin_a to_a = group_now w a low begin_a to_a to_w (cases_lt w to)

-- all of them
pub group_tables : (day : OpenDay) (group : Summary) → group.weekends ≡ 0 → group.assignments ≡ 0
    → {first last : ℕ} → Goes (box_at day.boxes.now (shift_digit group.last)).weekends (sizes_of day.days.search.case.now day.days.search.nurse).weekends first last
    → {begin end : ℕ} → Goes (box_at day.boxes.now (shift_digit group.last)).assignments (sizes_of day.days.search.case.now day.days.search.nurse).assignments begin end
    → (to : ℕ) → last ≤ to → (labels pointers : List ℕ) → GroupCells day group begin end first to labels pointers → AreTables day (IsReachableBy day group) labels pointers
group_tables day group no_weekends no_assignments weekends places to at_end labels pointers cells =
    record { labels_are = λ s like. (cell s like).least; pointers_are = λ s like. (cell s like).points }
  where
    cell : (s : Summary) → IsReachableBy day group s → AreOfLeast (best_with day s) day.offers.now (slice_index_or labels (code_of (sizes_of day.days.search.case.now day.days.search.nurse) s) 0) (slice_index_or pointers (day.first + code_of (sizes_of day.days.search.case.now day.days.search.nurse) s) 0)
    cell s like =
        let w = like_weekends like weekends in
        let a = like_place like places in
        let code = like_code like day.days.ranges day.days.own_ranges no_weekends no_assignments in
        let at_code : code_of day.days.ranges group + (s.weekends * day.days.ranges.assignments + s.assignments) ≡ code_of (sizes_of day.days.search.case.now day.days.search.nurse) s = omega (arith, code) in
        let at_first : day.first + code_of day.days.ranges group + (s.weekends * day.days.ranges.assignments + s.assignments) ≡ day.first + code_of (sizes_of day.days.search.case.now day.days.search.nurse) s = omega (arith, code) in
        let state = as_place like s.weekends refl in
        transport (λ q. AreOfLeast (best_with day (state q)) day.offers.now (slice_index_or labels (at_code q) 0) (slice_index_or pointers (at_first q) 0)) (cells s.weekends s.assignments w.0 (omega (arith, w.1, at_end)) a.0 a.1)
