use Rattle.std.proofs.Common.{◌≡◌, ◌∙◌, ◌+◌, ◌<◌, ap, arith, refl}
use Rattle.roster_instance.specs.Counting.{sum_below}
use Rattle.roster_instance.specs.Meaning.{nurse_count}
use Rattle.roster_rules.proofs.CountLemmas.{sum_more}
use Rattle.roster_slots.specs.Tables.{slot_prices}
use Rattle.roster_prices.specs.Nodes.{row_bound_in}
use Rattle.roster_prices.proofs.Counted.{counted_more, search_fits_meter}
use Rattle.roster_prices.proofs.bounds.row_bounds.Goals as goal

pub row_bound_in-bound-requires-clause-room : goal.row_bound_in-bound-requires-clause-room
row_bound_in-bound-requires-clause-room g c =
    let k = c.args.terms.now.case.now in
    let n = c.loop-nurse.nurse in
    let inside : n < nurse_count k = omega (arith, c.loop-nurse-test.true, c.nurses-nurse-end.ensures.count) in
    search_fits_meter k n c.args.meter.now c.loop-nurse.meter c.loop-nurse.invariant.counted inside 18446744073709551615 c.requires.room

pub loop-nurse-preserved : goal.loop-nurse-preserved
loop-nurse-preserved g c =
    let k = c.args.terms.now.case.now in
    let f = row_bound_in k c.args.terms.now.from c.args.terms.now.given.now c.args.terms.now.scale (slot_prices c.args.terms.now.scale c.args.terms.now.dual_prices.now) c.args.node.now in
    let n = c.loop-nurse.nurse in
    let i = c.loop-nurse.invariant in
    let inside : n < nurse_count k = omega (arith, c.loop-nurse-test.true, c.nurses-nurse-end.ensures.count) in
    let more : sum_below n f + c.row_bound_in-bound.result ≡ sum_below (n + 1) f = sum_more f n _ _ refl c.row_bound_in-bound.ensures.bound in
    record {
      so_far = omega (arith, i.so_far, more);
      within = omega (arith, i.within, c.row_bound_in-bound.ensures.within);
      rows = c.row_bound_in-bound.ensures.rows;
      pool = c.keep.ensures;
      made = omega (arith, i.made, c.row_bound_in-bound.ensures.each_day);
      counted = counted_more k n c.args.meter.now c.loop-nurse.meter i.counted inside c.row_bound_in-bound.new.meter c.row_bound_in-bound.ensures.counted;
    }

pub returns-clause-bounds : goal.returns-clause-bounds
returns-clause-bounds g c =
    let k = c.args.terms.now.case.now in
    let f = row_bound_in k c.args.terms.now.from c.args.terms.now.given.now c.args.terms.now.scale (slot_prices c.args.terms.now.scale c.args.terms.now.dual_prices.now) c.args.node.now in
    let all : c.loop-nurse.nurse ≡ nurse_count k = omega (arith, c.loop-nurse-test.false, c.loop-nurse.auto.nurse-end, c.nurses-nurse-end.ensures.count) in
    c.loop-nurse.invariant.so_far ∙ ap (λ m. sum_below m f) all
