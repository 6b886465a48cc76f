use Rattle.std.proofs.Common.{◌≡◌, ◌∙◌, ◌*◌, ◌≤◌, ℕ, List, Some, vec_capacity, ap, arith, length, slice_index_or, subst, sym, ◌+◌, true}
use Rattle.std.specs.Vec.{with_items}
use Rattle.std.proofs.lemmas.List.{get_or_read_under, with_items_is}
use Rattle.roster_instance.specs.Meaning.{day_count}
use Rattle.roster_state.specs.Codes.{code_of, product, sizes_of, Sizes, fits_sizes}
use Rattle.roster_offers.specs.Lists.{best_over_at, offers_on}
use Rattle.roster_offers.proofs.LowRows.{LowRow}
use Rattle.roster_offers.proofs.ScaleLaws.{low_over_at}
use Rattle.roster_tables.specs.Search.{TableCapacity, boxes_on}
use Rattle.roster_tables.specs.Tables.{IsReachable}
use Rattle.roster_tables.proofs.SearchLaws.{first_label, goes_on}
use Rattle.roster_tables.proofs.MostLaws.{reachable_some, reachable_within}
use Rattle.roster_tables.proofs.search.search_states.Goals as goal
use Rattle.roster_tables.proofs.search.search_states.Goals.{After-index, After-of-ranges}

-- the best row, and it is low
found : (c : After-of-ranges) → LowRow (best_over_at c.args.search.now.case.now c.args.search.now.nurse c.args.search.now.scale (offers_on c.args.search.now.offers.now))
found c =
    let search = c.args.search.now in
    low_over_at search.case.now c.keeps_limits.ensures.small c.keeps_limits.ensures.weeks search.nurse search.scale search.in_scale (offers_on search.offers.now) (λ day within. (search.for_nurse.each day within).of_case) c.requires.some

pub invariant_of-days : goal.invariant_of-days
invariant_of-days c = record { own_rules = c.contract_rules.ensures.rules; own_ranges = c.of-ranges.ensures.sizes; are_reachable = c.requires.are_reachable }

pub label_days-requires-clause-labels_capacity : goal.label_days-requires-clause-labels_capacity
label_days-requires-clause-labels_capacity c =
    omega (arith, ap (λ (t : TableCapacity). t.labels) c.tables.view_is, c.tables.invariant, c.requires.tables.labels, c.of-ranges.ensures.states)

pub label_days-requires-clause-pointers_capacity : goal.label_days-requires-clause-pointers_capacity
label_days-requires-clause-pointers_capacity c =
    omega (arith, ap (λ (t : TableCapacity). t.pointers) c.tables.view_is, c.requires.tables.pointers, ap (λ m. day_count c.args.search.now.case.now * m) c.of-ranges.ensures.states)

pub label_days-requires-clause-equal_lengths : goal.label_days-requires-clause-equal_lengths
label_days-requires-clause-equal_lengths c = ap length c.deref_mut-2.ensures.value ∙ sym c.tables.invariant ∙ sym (ap length c.deref_mut.ensures.value)

pub read_row-requires-clause-pointers_capacity : goal.read_row-requires-clause-pointers_capacity
read_row-requires-clause-pointers_capacity c =
    omega (arith, ap (λ (t : TableCapacity). t.pointers) c.tables.view_is, c.requires.tables.pointers, ap (λ m. day_count c.args.search.now.case.now * m) c.of-ranges.ensures.states, c.label_days.ensures.pointers_length)

pub code-requires : goal.code-requires
code-requires c = subst (λ (z : Sizes). fits_sizes z c.start-first.result.0 ≡ true) (sym c.of-ranges.ensures.sizes) c.start-first.ensures.fits

pub index-requires : goal.index-requires
index-requires c =
    omega (arith, c.code.ensures.within, ap (λ (t : TableCapacity). t.labels) c.tables.view_is, c.tables.invariant, c.requires.tables.labels, c.of-ranges.ensures.states, c.label_days.ensures.lengths.of_labels)

-- ---- the first label

-- the tables, each written through its slice
labels_after : (c : After-index) → (with_items c.tables.inside.labels c.label_days.new.even).items ≡ c.label_days.new.even
labels_after c = with_items_is c.tables.inside.labels c.label_days.new.even (c.label_days.ensures.lengths.of_labels ∙ c.deref_mut.ensures.len)

later_after : (c : After-index) → (with_items c.tables.inside.later c.label_days.new.odd).items ≡ c.label_days.new.odd
later_after c = with_items_is c.tables.inside.later c.label_days.new.odd (c.label_days.ensures.lengths.of_numbers ∙ c.deref_mut-2.ensures.len)

label_is : (c : After-index) (best : LowRow (best_over_at c.args.search.now.case.now c.args.search.now.nurse c.args.search.now.scale (offers_on c.args.search.now.offers.now))) → c.index.result.now ≡ best.row.0
label_is c best =
    let k = c.args.search.now.case.now in
    let n = c.args.search.now.nurse in
    let s = c.start-first.result.0 in
    let code = c.code.result in
    let reachable = subst (IsReachable k n (boxes_on c.args.boxes.now.days 0)) (sym c.start-first.ensures.state) c.requires.are_reachable.start in
    let here : code ≡ code_of (sizes_of k n) s = c.code.ensures.code ∙ ap (λ y. code_of y s) c.of-ranges.ensures.sizes in
    let boxes_known = ap (λ j. slice_index_or c.label_days.new.even j 0) here ∙ c.label_days.ensures.labels s reachable in
    let all : product c.of-ranges.result ≤ length c.label_days.new.even = omega (arith, ap (λ (t : TableCapacity). t.labels) c.tables.view_is, c.tables.invariant, c.requires.tables.labels, c.of-ranges.ensures.states, c.label_days.ensures.lengths.of_labels) in
    let items = labels_after c in
    let read = get_or_read_under (with_items c.tables.inside.labels c.label_days.new.even).items code (length c.label_days.new.even) c.index.result.now 0 c.index.ensures (omega (arith, all, c.code.ensures.within)) (sym (ap length items)) ∙ ap (λ (xs : List ℕ). slice_index_or xs code 0) items in
    first_label k n c.args.search.now.scale (offers_on c.args.search.now.offers.now) s c.index.result.now best.row.0 best.row.1 c.start-first.ensures.state (read ∙ boxes_known) best.is best.low

pub returns-clause-best : goal.returns-clause-best
returns-clause-best c =
    let best = found (goal.at.returns-clause-best c).After-of-ranges in
    record {
      offers = best.row.1;
      is = best.is ∙ ap (λ cost. Some (cost, best.row.1)) (sym (label_is (goal.at.returns-clause-best c).After-index best));
      row_is = c.read_row.ensures.row best.row.0 best.row.1 best.is;
    }

pub returns-clause-below : goal.returns-clause-below
returns-clause-below c =
    let best = found (goal.at.returns-clause-below c).After-of-ranges in
    omega (arith, label_is (goal.at.returns-clause-below c).After-index best, best.low)

-- ---- what it takes

pub returns-clause-each_day : goal.returns-clause-each_day
returns-clause-each_day c =
    let k = c.args.search.now.case.now in
    let n = c.args.search.now.nurse in
    let offers = offers_on c.args.search.now.offers.now in
    let boxes = c.args.boxes.now.days in
    let are_reachable = c.requires.are_reachable in
    let some = reachable_some k n offers boxes (λ day within.
    let at = goes_on k n c.args.search.now.scale offers boxes are_reachable.lead are_reachable.start c.requires.some day (omega (arith, within)) in
    (record { state = at.state; reachable = at.reachable }, (c.args.search.now.for_nurse.each day within).some)) in
    omega (arith, c.label_days.ensures.exactly, some)

pub returns-clause-counted : goal.returns-clause-counted
returns-clause-counted c =
    let all = reachable_within c.args.search.now.case.now c.args.search.now.nurse (offers_on c.args.search.now.offers.now) c.args.boxes.now.days (λ day within. (c.args.search.now.for_nurse.each day within).few) in
    omega (arith, c.label_days.ensures.exactly, all)

-- ---- the tables after it

pub invariant_of-tables : goal.invariant_of-tables
invariant_of-tables c =
    let at = (goal.at.invariant_of-tables c).After-index in
    ap length (labels_after at) ∙ (c.label_days.ensures.lengths.of_labels ∙ ap length c.deref_mut.ensures.value) ∙ c.tables.invariant ∙ sym (c.label_days.ensures.lengths.of_numbers ∙ ap length c.deref_mut-2.ensures.value) ∙ sym (ap length (later_after at))

pub returns-clause-tables : goal.returns-clause-tables
returns-clause-tables c =
    let at = (goal.at.returns-clause-tables c).After-index in
    let labels = ap length (labels_after at) ∙ c.label_days.ensures.lengths.of_labels ∙ ap length c.deref_mut.ensures.value in
    let later = ap length (later_after at) ∙ c.label_days.ensures.lengths.of_numbers ∙ ap length c.deref_mut-2.ensures.value in
    let pointers = c.label_days.ensures.pointers_length in
    (λ i. record { labels = labels i + later i; pointers = pointers i; label_capacity = vec_capacity c.tables.inside.labels; later_capacity = vec_capacity c.tables.inside.later }) ∙ c.tables.view_is
