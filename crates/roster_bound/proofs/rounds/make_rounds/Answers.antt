use Rattle.std.proofs.Common.{◌∙◌, ◌≡◌, ◌<◌, ℕ, arith, subst}
use Rattle.std.proofs.lemmas.Result.{err_from_is_err_and}
use Rattle.roster_text.specs.Io.{BreaksIn, Sends}
use Rattle.roster_instance.specs.Meaning.{Meaning}
use Rattle.roster_instance.specs.Rosters.{Rows}
use Rattle.roster_laws.proofs.Frozen.{stays_self}
use Rattle.roster_slots.specs.Tables.{PriceTable, slot_prices}
use Rattle.roster_slots.specs.Slots.{AreDualPrices, SameDualPrices}
use Rattle.roster_prices.specs.LowerBounds.{bound_by, first_dual_prices}
use Rattle.roster_prices.proofs.Counted.{round_counted, round_fits_meter, round_within, rounds_within}
use Rattle.roster_bound.proofs.BoundLogLaws.{IsBoundOfRound, first_text}
use Rattle.roster_bound.proofs.RoundLaws.{bound_of_its_sum, by_sums-raised, by_sums-same, by_sums-start, ends_all, ends_barren, ends_met, raised_breaks, start_breaks}
use Rattle.roster_bound.proofs.SameBounds.{bound_same}
use Rattle.roster_bound.proofs.WholePoints.{first_same}
use Rattle.roster_bound.proofs.rounds.make_rounds.Goals as goal

-- the bound of the round after this many others
bound_is_of_round : (c : Meaning) (from : ℕ) (given : Rows) (scale : ℕ) → 0 < scale → (made bound : ℕ) (w : PriceTable) → AreDualPrices scale (slot_prices scale w) → bound ≡ bound_by c from given scale (slot_prices scale w)
    → (made ≡ 0 → SameDualPrices c (slot_prices scale w) (first_dual_prices c scale)) → IsBoundOfRound c from given made bound
bound_is_of_round c from given scale some made bound w are is first = record {
  scale = scale;
  some = some;
  dual_prices = slot_prices scale w;
  are_dual_prices = are;
  bound_is = is;
  first = λ none. is ∙ bound_same c from given scale (slot_prices scale w) (first_dual_prices c scale) (first none) ∙ first_same scale some c from given;
}

pub returns-in_err-sent-clause-err : goal.returns-in_err-sent-clause-err
returns-in_err-sent-clause-err g c =
    let p = err_from_is_err_and c.from_residual.result c.from_residual.ensures.1 in
    let b = c.args.top.now.base.now in
    rw (p.1, p.2) (start_breaks g.W.Write.contents b.case.now b.from b.given.now b.scale c.args.log.now b.in_scale c.args.rounds c.log_start.new.log c.in_err-sent.field-0.0
    (subst (λ text. BreaksIn g.W.Write.contents c.args.log.now c.log_start.new.log 0 text c.in_err-sent.field-0.0) (first_text b.case.now b.given.now c.args.top.now.total c.args.top.now.total_is) c.in_err-sent.ensures.err))

pub loop-rounds_before-init : goal.loop-rounds_before-init
loop-rounds_before-init g c =
    let b = c.args.top.now.base.now in
    let sends = subst (Sends g.W.Write.contents c.args.log.now c.log_start.new.log 0 c.in_ok-sent.sent) (first_text b.case.now b.given.now c.args.top.now.total c.args.top.now.total_is) c.in_ok-sent.ensures.ok in
    record {
      so_far = by_sums-start g.W.Write.contents b.case.now b.from b.given.now b.scale c.args.log.now c.log_start.new.log c.in_ok-sent.sent sends;
      first = λ none. c.begin.ensures.dual_prices b.scale;
      below = λ r fits keeps stays. omega arith;
      within = omega arith;
      made = omega arith;
      ends = c.left.ensures.later.ends;
      counted = omega arith;
      fits = c.begin.ensures.fits;
    }

pub returns-in_err-sent-2-clause-err : goal.returns-in_err-sent-2-clause-err
returns-in_err-sent-2-clause-err g c =
    let p = err_from_is_err_and c.from_residual-in_err-sent-2.result c.from_residual-in_err-sent-2.ensures.1 in
    let l = c.loop-rounds_before in
    let b = c.args.top.now.base.now in
    let round = c.make_round-round in
    rw (p.1, p.2) (raised_breaks g.W.Write.contents b.case.now b.from b.given.now b.scale c.args.log.now b.in_scale c.args.rounds l.log c.log_round.new.log l.rounds_before l.gains.top l.gains.barren l.sent l.best round.result.sum round.result.bound c.in_err-sent-2.field-0.0
    l.invariant.so_far c.loop-rounds_before-test.true (record { dual_prices = slot_prices b.scale l.workspace.dual_prices; are_dual_prices = round.ensures.dual_prices; sum_is = round.ensures.sum })
    (bound_of_its_sum b.case.now b.from b.given.now b.scale (slot_prices b.scale l.workspace.dual_prices) round.result.sum round.result.bound round.ensures.sum round.ensures.bound) c.if-round-best.false
    (bound_is_of_round b.case.now b.from b.given.now b.scale b.in_scale.some l.rounds_before round.result.bound l.workspace.dual_prices round.ensures.dual_prices round.ensures.bound l.invariant.first) c.in_err-sent-2.ensures.err)

pub loop-rounds_before-preserved : goal.loop-rounds_before-preserved
loop-rounds_before-preserved g c =
    let l = c.loop-rounds_before in
    let b = c.args.top.now.base.now in
    let round = c.make_round-round in
    record {
      so_far = by_sums-raised g.W.Write.contents b.case.now b.from b.given.now b.scale c.args.log.now l.log c.log_round.new.log l.rounds_before l.gains.top l.gains.barren l.sent c.in_ok-sent-2.sent l.best round.result.sum c.after-gains.result.top
          c.after-gains.result.barren round.result.bound l.invariant.so_far (record { dual_prices = slot_prices b.scale l.workspace.dual_prices; are_dual_prices = round.ensures.dual_prices; sum_is = round.ensures.sum }) c.after-gains.ensures.top c.after-gains.ensures.barren
          (bound_of_its_sum b.case.now b.from b.given.now b.scale (slot_prices b.scale l.workspace.dual_prices) round.result.sum round.result.bound round.ensures.sum round.ensures.bound) c.if-round-best.false
          (bound_is_of_round b.case.now b.from b.given.now b.scale b.in_scale.some l.rounds_before round.result.bound l.workspace.dual_prices round.ensures.dual_prices round.ensures.bound l.invariant.first) c.in_ok-sent-2.ensures.ok;
      first = λ none. omega (arith, none);
      below = round.ensures.below;
      within = round.ensures.below b.given.now b.fits c.args.top.now.keeps (stays_self b.case.now b.from b.given.now);
      made = omega (arith, l.invariant.made, round.ensures.counted.made);
      ends = c.left_after_step.ensures.later.ends ∙ l.invariant.ends;
      counted = round_counted b.case.now l.rounds_before c.args.meter.now l.meter l.invariant.counted round.new.meter round.ensures.counted.counted;
      fits = c.prepare_next.ensures;
    }

pub loop-rounds_before-preserved-then-round-best : goal.loop-rounds_before-preserved-then-round-best
loop-rounds_before-preserved-then-round-best g c =
    let l = c.loop-rounds_before in
    let b = c.args.top.now.base.now in
    let round = c.make_round-round in
    record {
      so_far = by_sums-same g.W.Write.contents b.case.now b.from b.given.now b.scale c.args.log.now l.log l.rounds_before l.gains.top l.gains.barren l.sent l.best round.result.sum c.after-gains.result.top c.after-gains.result.barren round.result.bound l.invariant.so_far
          (record { dual_prices = slot_prices b.scale l.workspace.dual_prices; are_dual_prices = round.ensures.dual_prices; sum_is = round.ensures.sum }) c.after-gains.ensures.top c.after-gains.ensures.barren
          (bound_of_its_sum b.case.now b.from b.given.now b.scale (slot_prices b.scale l.workspace.dual_prices) round.result.sum round.result.bound round.ensures.sum round.ensures.bound) c.if-round-best.true
          (bound_is_of_round b.case.now b.from b.given.now b.scale b.in_scale.some l.rounds_before round.result.bound l.workspace.dual_prices round.ensures.dual_prices round.ensures.bound l.invariant.first);
      first = λ none. omega (arith, none);
      below = l.invariant.below;
      within = l.invariant.within;
      made = omega (arith, l.invariant.made, round.ensures.counted.made);
      ends = c.left_after_step.ensures.later.ends ∙ l.invariant.ends;
      counted = round_counted b.case.now l.rounds_before c.args.meter.now l.meter l.invariant.counted round.new.meter round.ensures.counted.counted;
      fits = c.prepare_next.ensures;
    }

pub make_round-round-requires-clause-room : goal.make_round-round-requires-clause-room
make_round-round-requires-clause-room g c =
    let l = c.loop-rounds_before in
    round_fits_meter c.args.top.now.base.now.case.now l.rounds_before c.args.meter.now l.meter l.invariant.counted c.args.rounds 18446744073709551615 c.loop-rounds_before-test.true c.requires.room

pub returns-in_err-sent-2-clause-counted : goal.returns-in_err-sent-2-clause-counted
returns-in_err-sent-2-clause-counted g c =
    let l = c.loop-rounds_before in
    round_within c.args.top.now.base.now.case.now l.rounds_before c.args.meter.now l.meter l.invariant.counted c.args.rounds c.make_round-round.new.meter c.loop-rounds_before-test.true c.make_round-round.ensures.counted.counted

pub returns-clause-counted : goal.returns-clause-counted
returns-clause-counted g c =
    let l = c.loop-rounds_before in
    rounds_within c.args.top.now.base.now.case.now l.rounds_before c.args.meter.now l.meter l.invariant.counted c.args.rounds (omega (arith, l.auto.rounds_before-end))

pub returns-then-best-top-clause-ok : goal.returns-then-best-top-clause-ok
returns-then-best-top-clause-ok g c =
    let l = c.loop-rounds_before in
    let b = c.args.top.now.base.now in
    rw (c.reached_by.ensures.reached, c.reached_by.ensures.rounds) (ends_met g.W.Write.contents b.case.now b.from b.given.now b.scale c.args.log.now c.args.rounds c.args.meter.now l.meter l.log l.rounds_before l.gains.top l.gains.barren l.sent l.best l.invariant.so_far b.in_scale l.invariant.made
    (omega (arith, c.loop-rounds_before-test.true)) (omega (arith, c.if-best-top.true, c.args.top.now.total_is)) b.fits c.args.top.now.keeps)

pub returns-then-best-top-clause-counted : goal.returns-then-best-top-clause-counted
returns-then-best-top-clause-counted g c =
    let l = c.loop-rounds_before in
    rounds_within c.args.top.now.base.now.case.now l.rounds_before c.args.meter.now l.meter l.invariant.counted c.args.rounds (omega (arith, c.loop-rounds_before-test.true))

pub returns-clause-ok : goal.returns-clause-ok
returns-clause-ok g c =
    let l = c.loop-rounds_before in
    let b = c.args.top.now.base.now in
    rw (c.reached_by-2.ensures.reached, c.reached_by-2.ensures.rounds) (ends_all g.W.Write.contents b.case.now b.from b.given.now b.scale c.args.log.now c.args.rounds c.args.meter.now l.meter l.log l.rounds_before l.gains.top l.gains.barren l.sent l.best l.invariant.so_far b.in_scale l.invariant.made
    (omega (arith, l.auto.rounds_before-end)) (omega (arith, c.loop-rounds_before-test.false)))

-- ---- the last rounds were barren

pub returns-then-gains-ge-MOST_BARREN-clause-ok : goal.returns-then-gains-ge-MOST_BARREN-clause-ok
returns-then-gains-ge-MOST_BARREN-clause-ok g c =
    let l = c.loop-rounds_before in
    let b = c.args.top.now.base.now in
    rw (c.reached_by-then-gains-ge-MOST_BARREN.ensures.reached, c.reached_by-then-gains-ge-MOST_BARREN.ensures.rounds) (ends_barren g.W.Write.contents b.case.now b.from b.given.now b.scale c.args.log.now c.args.rounds c.args.meter.now l.meter l.log l.rounds_before l.gains.top l.gains.barren l.sent l.best l.invariant.so_far b.in_scale l.invariant.made
    (omega (arith, c.loop-rounds_before-test.true)) c.if-gains-ge-MOST_BARREN.true)

pub returns-then-gains-ge-MOST_BARREN-clause-counted : goal.returns-then-gains-ge-MOST_BARREN-clause-counted
returns-then-gains-ge-MOST_BARREN-clause-counted g c =
    let l = c.loop-rounds_before in
    rounds_within c.args.top.now.base.now.case.now l.rounds_before c.args.meter.now l.meter l.invariant.counted c.args.rounds (omega (arith, c.loop-rounds_before-test.true))

-- ---- the time is up

pub returns-then-left_after_step-eq0-clause-ok : goal.returns-then-left_after_step-eq0-clause-ok
returns-then-left_after_step-eq0-clause-ok g c =
    let l = c.loop-rounds_before in
    let b = c.args.top.now.base.now in
    rw (c.reached_by-then-left_after_step-eq0.ensures.reached, c.reached_by-then-left_after_step-eq0.ensures.rounds) (ends_all g.W.Write.contents b.case.now b.from b.given.now b.scale c.args.log.now l.rounds_before c.args.meter.now l.meter l.log l.rounds_before l.gains.top l.gains.barren l.sent l.best l.invariant.so_far b.in_scale l.invariant.made
    (omega arith) (omega arith))

pub returns-then-left_after_step-eq0-clause-counted : goal.returns-then-left_after_step-eq0-clause-counted
returns-then-left_after_step-eq0-clause-counted g c =
    let l = c.loop-rounds_before in
    rounds_within c.args.top.now.base.now.case.now l.rounds_before c.args.meter.now l.meter l.invariant.counted c.args.rounds (omega (arith, c.loop-rounds_before-test.true))
