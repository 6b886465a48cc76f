use Rattle.std.proofs.Common.{◌≡◌, arith, true}
use Rattle.roster_offers.specs.Lists.{offers_on}
use Rattle.roster_partial.specs.Counts.{CountsSets}
use Rattle.roster_partial.proofs.CountLaws.{no_set, one_row, one_set, sets_more, sets_within}
use Rattle.roster_partial.proofs.rates.try_more.Goals as goal
use Rattle.roster_partial.proofs.rates.try_more.Goals.{After-trial-other}

-- the completion bounds are set once, and then a row is followed
counted : (c : After-trial-other) → CountsSets c.args.bounded.now.search.case.now c.args.bounded.now.search.nurse (offers_on c.args.bounded.now.search.offers.now) 1 1 c.args.meter.now c.trial-other.new.meter
counted c =
    let search = c.args.bounded.now.search in
    let offers = offers_on search.offers.now in
    let set : c.set_completion_bounds.result ≡ true = c.set_completion_bounds.ensures.capacity.1 c.requires.tried.set.inside in
    sets_more search.case.now search.nurse offers (one_set search.case.now search.nurse offers c.args.meter.now c.set_completion_bounds.new.meter (c.set_completion_bounds.ensures.counted set))
    (one_row search.case.now search.nurse offers c.set_completion_bounds.new.meter c.trial-other.new.meter c.trial-other.ensures.counted)

pub returns-then-other-tried-clause-counted : goal.returns-then-other-tried-clause-counted
returns-then-other-tried-clause-counted c = counted (goal.at.returns-then-other-tried-clause-counted c).After-trial-other

pub returns-clause-counted : goal.returns-clause-counted
returns-clause-counted c = counted (goal.at.returns-clause-counted c).After-trial-other

pub returns-then-are_same-clause-counted : goal.returns-then-are_same-clause-counted
returns-then-are_same-clause-counted c =
    let search = c.args.bounded.now.search in
    let offers = offers_on search.offers.now in
    sets_within search.case.now search.nurse offers (omega arith) (omega arith) (no_set search.case.now search.nurse offers c.args.meter.now)
