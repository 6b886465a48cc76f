use Rattle.std.proofs.Common.{◌∙◌, ◌+◌, ◌<◌, arith}
use Rattle.roster_instance.specs.Meaning.{nurse_count}
use Rattle.roster_laws.specs.Greatest.{greatest_extension_count}
use Rattle.std.proofs.lemmas.Nat.{mul-le}
use Rattle.roster_who.specs.Who.{taker}
use Rattle.roster_who.proofs.TakerLemmas.{one_more}
use Rattle.roster_prices.proofs.Counted.{counted_more, search_fits_meter}
use Rattle.roster_who.proofs.taker.all_takers.Goals as goal

pub taker_of-taker-requires-clause-room : goal.taker_of-taker-requires-clause-room
taker_of-taker-requires-clause-room g c =
    let k = c.args.asking.now.case.now in
    let n = c.loop-nurse.nurse in
    let inside : n < nurse_count k = omega (arith, c.loop-nurse-test.true, c.nurses-nurse-end.ensures.count) in
    search_fits_meter k n c.args.meter.now c.loop-nurse.meter c.loop-nurse.invariant.counted inside 18446744073709551615 c.requires.room

pub loop-nurse-preserved : goal.loop-nurse-preserved
loop-nurse-preserved g c =
    let k = c.args.asking.now.case.now in
    let n = c.loop-nurse.nurse in
    let i = c.loop-nurse.invariant in
    let inside : n < nurse_count k = omega (arith, c.loop-nurse-test.true, c.nurses-nurse-end.ensures.count) in
    record {
      so_far = one_more (taker k c.args.asking.now.from c.args.asking.now.roster.now c.args.asking.now.asked) c.loop-nurse.gathered.items c.push_some.new.gathered.items n c.taker_of-taker.result i.so_far c.taker_of-taker.ensures.taker c.in_ok-push_some.ensures;
      fits = c.taker_of-taker.ensures.fits;
      trial = c.taker_of-taker.ensures.trial ∙ i.trial;
      counted = counted_more k n c.args.meter.now c.loop-nurse.meter i.counted inside c.taker_of-taker.new.meter c.taker_of-taker.ensures.counted;
    }

pub returns-in_err-push_some-clause-counted : goal.returns-in_err-push_some-clause-counted
returns-in_err-push_some-clause-counted g c =
    let k = c.args.asking.now.case.now in
    let n = c.loop-nurse.nurse in
    let g = greatest_extension_count k in
    let inside : n < nurse_count k = omega (arith, c.loop-nurse-test.true, c.nurses-nurse-end.ensures.count) in
    omega (arith, counted_more k n c.args.meter.now c.loop-nurse.meter c.loop-nurse.invariant.counted inside c.taker_of-taker.new.meter c.taker_of-taker.ensures.counted, mul-le (n + 1) g (nurse_count k) g (omega (arith, inside)) (omega arith))
