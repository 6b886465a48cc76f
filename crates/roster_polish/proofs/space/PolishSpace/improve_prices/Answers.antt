use Rattle.std.proofs.Common.{◌≡◌, ◌+◌, ◌-◌, ◌≤◌, arith, subst, sym}
use Rattle.roster_instance.specs.Meaning.{nurse_count}
use Rattle.roster_polish.specs.Fades.{AreMade}
use Rattle.roster_polish.specs.Settled.{Spends}
use Rattle.roster_polish.proofs.Fading.{made_both, made_round}
use Rattle.roster_polish.proofs.Memory.{fits_with}
use Rattle.roster_polish.proofs.Passes.{enough_after, enough_for_one}
use Rattle.roster_polish.proofs.Steps.{round_fits_meter, round_spent, spent_both}
use Rattle.roster_polish.proofs.space.PolishSpace.improve_prices.Goals as goal

pub improve_dual_prices-requires-clause-room : goal.improve_dual_prices-requires-clause-room
improve_dual_prices-requires-clause-room g c =
    let k = c.args.base.now.case.now in
    let l = c.loop-made in
    round_fits_meter k c.args.meter.now c.args.searches.now.left l.meter l.searches.left 18446744073709551615 l.invariant.spends c.requires.room
    (enough_for_one (nurse_count k) c.args.rounds l.made l.searches.left c.loop-made-test.true l.invariant.within)

-- a round over all nurses
pub loop-made-preserved : goal.loop-made-preserved
loop-made-preserved g c =
    let k = c.args.base.now.case.now in
    let l = c.loop-made in
    let i = l.invariant in
    let left = l.searches.left in
    let all = c.args.searches.now.left in
    let n = c.nurses-nurses.result in
    let is : n ≡ nurse_count k = c.nurses-nurses.ensures.count in
    let round = c.improve_dual_prices in
    let meter = round.new.meter in
    let enough : nurse_count k ≤ left = enough_for_one (nurse_count k) c.args.rounds l.made left c.loop-made-test.true i.within in
    let made = made_both k c.args.meter.now all l.meter left meter (left - nurse_count k) i.made (made_round k l.meter meter left enough round.ensures.counted.made) in
    let spends = spent_both k c.args.meter.now all l.meter left meter (left - nurse_count k) i.spends (round_spent k l.meter left enough meter round.ensures.counted.counted) in
    record {
      made = subst (λ m. AreMade k c.args.meter.now all meter (left - m)) (sym is) made;
      spends = subst (λ m. Spends k c.args.meter.now all meter (left - m)) (sym is) spends;
      within = enough_after (nurse_count k) c.args.rounds l.made left c.loop-made-test.true i.within (left - n) (omega (arith, is, enough));
      ends = i.ends;
      fits = fits_with k l.self i.fits round.new.workspace l.self.last l.self.best round.ensures.fits i.fits.recalls i.fits.best;
    }
