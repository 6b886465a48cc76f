use Rattle.std.proofs.Common.{arith}
use Rattle.roster_offers.specs.Lists.{offers_on}
use Rattle.roster_partial.proofs.CountLaws.{no_set, sets_more, sets_within}
use Rattle.roster_partial.proofs.closer.try_around.Goals as goal

pub trials-init : goal.trials-init
trials-init c =
    let search = c.args.bounded.now.search in
    record {
      tried = c.requires.tried;
      counted = no_set search.case.now search.nurse (offers_on search.offers.now) c.args.meter.now;
      most = c.requires.room;
    }

pub trials-preserved : goal.trials-preserved
trials-preserved c =
    let search = c.args.bounded.now.search in
    let offers = offers_on search.offers.now in
    let i = c.trials.invariant in
    record {
      tried = c.try_more-tried.ensures.tried;
      counted = sets_more search.case.now search.nurse offers i.counted c.try_more-tried.ensures.counted;
      most = omega (arith, c.try_more-tried.ensures.few, c.if-bounded-count.false, c.count.ensures, c.extensions_of_trial-each.ensures.extensions);
    }

pub returns-then-change-eq0-clause-counted : goal.returns-then-change-eq0-clause-counted
returns-then-change-eq0-clause-counted c =
    let search = c.args.bounded.now.search in
    sets_within search.case.now search.nurse (offers_on search.offers.now) (omega (arith, c.trials-test.true)) (omega (arith, c.trials-test.true)) c.trials.invariant.counted
