use Rattle.std.proofs.Common.{◌≡◌, ◌∙◌, ◌+◌, ◌*◌, ◌<◌, ◌≤◌, ℕ, suc, ap, arith, length, refl}
use Rattle.std.proofs.lemmas.Nat.{mul-le}
use Rattle.roster_instance.specs.Counting.{sum_below}
use Rattle.roster_instance.specs.Meaning.{day_count}
use Rattle.roster_instance.specs.Sizes.{choice_count}
use Rattle.roster_state.specs.Codes.{Sizes, product, sizes_of}
use Rattle.roster_offers.specs.Lists.{offers_on}
use Rattle.roster_offers.proofs.ListLaws.{offers_read}
use Rattle.roster_tables.specs.Counts.{states_in_boxes, states_on}
use Rattle.roster_tables.specs.Search.{boxes_on, extensions_on}
use Rattle.roster_tables.proofs.MostLaws.{boxes_few, states_in_few}
use Rattle.roster_tables.proofs.SearchLaws.{boxes_read, extension_is}
use Rattle.roster_tables.proofs.extensions.extensions_at_most.Goals as goal
use Rattle.roster_tables.proofs.extensions.extensions_at_most.Goals.{After-states_in_boxes}

-- the day's offers, as they are read from the table
offers_here : (c : After-states_in_boxes) → c.as_slice-offers.result.now ≡ offers_on c.args.search.now.offers.now c.loop-day.day
offers_here c =
    c.as_slice-offers.ensures.value ∙ offers_read c.args.search.now.case.now c.args.search.now.nurse c.args.search.now.offers.now c.args.search.now.for_nurse c.loop-day.day (omega (arith, c.loop-day-test.true, c.days-day-end.ensures.count)) _ c.index-search-day.result refl

-- what a day takes, and the most that it can take
record DayHere (c : After-states_in_boxes) : Type 0 where
  all : extensions_on c.args.search.now.case.now c.args.search.now.nurse (offers_on c.args.search.now.offers.now) c.args.boxes.now.days c.loop-day.day ≤ c.states_in_boxes.result * length c.as_slice-offers.result.now
  within : c.states_in_boxes.result * length c.as_slice-offers.result.now ≤ product c.of-ranges.result * choice_count c.args.search.now.case.now c.args.search.now.nurse
  small : c.states_in_boxes.result * length c.as_slice-offers.result.now ≤ 16777216

day_here : (c : After-states_in_boxes) → DayHere c
day_here c =
    let k = c.args.search.now.case.now in
    let n = c.args.search.now.nurse in
    let z = c.of-ranges.result in
    let day = c.loop-day.day in
    let table = c.args.boxes.now.days in
    let offers = c.as_slice-offers.result.now in
    let states = c.states_in_boxes.result in
    let inside : day < day_count k = omega (arith, c.loop-day-test.true, c.days-day-end.ensures.count) in
    let long : length table ≡ 365 = omega arith in
    let long_offers = ap length (offers_here c) in
    let boxes = boxes_read table day _ (omega (arith, long, c.loop-day-test.true, c.days-day-end.ensures.within)) in
    let is : states ≡ states_in_boxes z (boxes_on table day) = c.states_in_boxes.ensures ∙ ap (states_in_boxes z) boxes in
    let sizes : states_in_boxes z (boxes_on table day) ≡ states_in_boxes (sizes_of k n) (boxes_on table day) = ap (λ (y : Sizes). states_in_boxes y (boxes_on table day)) c.of-ranges.ensures.sizes in
    let over : states_on k n (boxes_on table day) ≤ states = omega (arith, is, sizes, states_in_few k n (boxes_on table day)) in
    let up_to : states ≤ product z = omega (arith, is, boxes_few z (boxes_on table day) z.last (omega arith)) in
    let few : length offers ≤ choice_count k n = omega (arith, (c.args.search.now.for_nurse.each day inside).few, long_offers) in
    record {
      all = mul-le (states_on k n (boxes_on table day)) (length (offers_on c.args.search.now.offers.now day)) states (length offers) over (omega (arith, long_offers));
      within = mul-le states (length offers) (product z) (choice_count k n) up_to few;
      small = omega (arith, mul-le states (length offers) 1048576 16 (omega (arith, up_to, c.of-ranges.ensures.states, c.keeps_sizes.ensures.states n c.args.search.now.in_case)) (omega (arith, c.as_slice-offers.ensures.fits)));
    }

pub overflow_mul-extensions : goal.overflow_mul-extensions
overflow_mul-extensions c = omega (arith, (day_here (goal.at.overflow_mul-extensions c).After-states_in_boxes).small)

pub overflow_add-extensions : goal.overflow_add-extensions
overflow_add-extensions c =
    omega (arith, (day_here (goal.at.overflow_add-extensions c).After-states_in_boxes).small, c.loop-day.invariant.small, c.loop-day-test.true, c.days-day-end.ensures.within)

pub loop-day-preserved : goal.loop-day-preserved
loop-day-preserved c =
    let k = c.args.search.now.case.now in
    let n = c.args.search.now.nurse in
    let day = c.loop-day.day in
    let old = c.loop-day.invariant in
    let here = day_here (goal.at.loop-day-preserved c).After-states_in_boxes in
    let f : ℕ → ℕ = extensions_on k n (offers_on c.args.search.now.offers.now) c.args.boxes.now.days in
    let next : suc day ≡ day + 1 = omega arith in
    record {
      all = omega (arith, old.all, here.all, ap (λ m. sum_below m f) next);
      within = omega (arith, old.within, here.within);
      small = omega (arith, old.small, here.small);
    }

pub returns-clause-within : goal.returns-clause-within
returns-clause-within c =
    let k = c.args.search.now.case.now in
    let n = c.args.search.now.nurse in
    let last : c.loop-day.day ≡ day_count k = omega (arith, c.loop-day-test.false, c.loop-day.auto.day-end, c.days-day-end.ensures.count) in
    let size = product c.of-ranges.result * choice_count k n in
    let same : size ≡ product (sizes_of k n) * choice_count k n = ap (λ (y : Sizes). product y * choice_count k n) c.of-ranges.ensures.sizes in
    omega (arith, c.loop-day.invariant.within, ap (λ d. d * size) last, ap (λ j. day_count k * j) same, extension_is k n)
