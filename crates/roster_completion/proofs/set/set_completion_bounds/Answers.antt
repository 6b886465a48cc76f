use borrow.Rule.Slice.PartMut.{put_mid}
use Rattle.std.proofs.Common.{◌≡◌, ◌∙◌, ◌+◌, ◌-◌, ◌*◌, ◌<◌, ◌≤◌, ℕ, ap, arith, get_or, length, refl, subst, sym, ⊎_elim}
use Rattle.std.proofs.Math.Path.{transport}
use Rattle.std.proofs.lemmas.Bool.{cases_lt}
use Rattle.std.proofs.lemmas.List.Edits.{length-between}
use Rattle.std.proofs.lemmas.Nat.{mul-le}
use Rattle.roster_instance.specs.Counting.{sum_below}
use Rattle.roster_offers.specs.Lists.{offers_on}
use Rattle.roster_state.specs.Codes.{sizes_of}
use Rattle.roster_state.specs.CompletionLines.{most_completion_bound}
use Rattle.roster_completion.specs.CompletionBounds.{LieUnder, completion_count}
use Rattle.roster_completion.proofs.Cells.{put_inside, put_length}
use Rattle.roster_completion.proofs.DayLaws.{all_days, one_before, one_day_more, set_kept}
use Rattle.roster_completion.proofs.set.set_completion_bounds.Goals as goal

pub loop-day-init : goal.loop-day-init
loop-day-init c =
    let search = c.args.search.now in
    let old = c.args.completion_bounds.now in
    let part = c.fill.new.self in
    let count = c.completion_count-count.result in
    let first = c.days-days.result * count in
    let width = first + count - first in
    let inside : first + width ≤ length old = omega (arith, c.if-completion_bounds-days.false) in
    let long : length part ≡ width = c.fill.auto.self ∙ length-between old first (first + count) (omega (arith, inside)) in
    let none : (k : ℕ) → k < count → get_or (put_mid first width old part) (first + k) 0 ≡ 0 = λ k l. put_inside old part first width long inside k (omega (arith, l)) ∙ c.fill.ensures.clones k 0 (omega (arith, l, long)) refl in
    record {
      set = λ d from below. absurd (omega (arith, from, below, c.days-days.ensures.count));
      end = none;
      low = λ k l. omega (arith, none k l);
      long = put_length old part first width long inside;
      counted = ap (λ d. c.args.meter.now + completion_count (sizes_of search.case.now search.nurse) * sum_below d (λ e. length (offers_on search.offers.now e))) c.days-days.ensures.count;
    }

pub set_before-requires-clause-low : goal.set_before-requires-clause-low
set_before-requires-clause-low c k l =
    subst (λ i. get_or c.loop-day.completion_bounds (i + k) 0 ≤ most_completion_bound) (sym (one_before c.loop-day.day c.completion_count-count.result c.loop-day-test.true)) (c.loop-day.invariant.low k l)

pub loop-day-preserved : goal.loop-day-preserved
loop-day-preserved c =
    let search = c.args.search.now in
    let z = sizes_of search.case.now search.nurse in
    let offers = offers_on search.offers.now in
    let day = c.loop-day.day in
    let count = c.completion_count-count.result in
    let so_far = c.loop-day.invariant in
    let more = c.set_before.ensures in
    let count_is : count ≡ completion_count z = c.completion_count-count.ensures.count ∙ ap completion_count c.of-ranges.ensures.sizes in
    let after = one_before day count c.loop-day-test.true in
    let within : day * count ≤ c.days-days.result * count = mul-le day count c.days-days.result count (omega (arith, c.loop-day.auto.day)) (omega arith) in
    record {
      set = λ d from below. ⊎_elim
          (λ l. set_kept search.case.now search.nurse search.scale c.args.rates offers c.loop-day.completion_bounds c.set_before.new.completion_bounds (day - 1) d l (λ j m. more.kept j (omega (arith, m, ap (λ e. (day - 1) * e + e) count_is))) (so_far.set d (omega (arith, l)) below))
          (λ m. let is : day - 1 ≡ d = omega (arith, from, m) in subst (λ e. LieUnder search.case.now search.nurse search.scale c.args.rates offers c.set_before.new.completion_bounds e) is more.under)
          (cases_lt (day - 1) d);
      end = λ j l. more.kept (c.days-days.result * count + j) (omega (arith, after, within)) ∙ so_far.end j l;
      low = more.low;
      long = more.length ∙ so_far.long;
      counted = omega (arith, so_far.counted, one_day_more (completion_count z) day (λ e. length (offers e)) c.loop-day-test.true, more.counted, ap (λ m. m * length (offers (day - 1))) count_is);
    }

pub set_before-requires-clause-extensions : goal.set_before-requires-clause-extensions
set_before-requires-clause-extensions c =
    let search = c.args.search.now in
    let z = sizes_of search.case.now search.nurse in
    let offers = offers_on search.offers.now in
    let day = c.loop-day.day in
    let count_is : c.completion_count-count.result ≡ completion_count z = c.completion_count-count.ensures.count ∙ ap completion_count c.of-ranges.ensures.sizes in
    omega (arith, ap (λ m. m * length (offers (day - 1))) count_is, one_day_more (completion_count z) day (λ e. length (offers e)) c.loop-day-test.true, c.loop-day.invariant.counted, c.requires.room)

pub returns-clause-completion_bounds : goal.returns-clause-completion_bounds
returns-clause-completion_bounds c _ =
    let search = c.args.search.now in
    let completion_bounds = c.loop-day.completion_bounds in
    let count_is : c.completion_count-count.result ≡ completion_count (sizes_of search.case.now search.nurse) = c.completion_count-count.ensures.count ∙ ap completion_count c.of-ranges.ensures.sizes in
    all_days search.case.now search.nurse search.scale c.args.rates (offers_on search.offers.now) completion_bounds (λ d below. c.loop-day.invariant.set d (omega (arith, c.loop-day-test.false)) below)
    (transport (λ i. (k : ℕ) → k < count_is i → get_or completion_bounds (c.days-days.ensures.count i * count_is i + k) 0 ≡ 0) c.loop-day.invariant.end)

pub returns-clause-counted : goal.returns-clause-counted
returns-clause-counted c _ =
    let search = c.args.search.now in
    let count = completion_count (sizes_of search.case.now search.nurse) in
    let lengths : ℕ → ℕ = λ e. length (offers_on search.offers.now e) in
    let none : c.loop-day.day ≡ 0 = omega (arith, c.loop-day-test.false) in
    omega (arith, c.loop-day.invariant.counted, ap (λ d. count * sum_below d lengths) none)
