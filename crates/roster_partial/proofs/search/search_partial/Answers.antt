use Rattle.std.proofs.Common.{◌+◌, ◌*◌, ◌≤◌, arith, subst}
use Rattle.roster_offers.specs.Lists.{offers_on}
use Rattle.roster_partial.specs.Counts.{rows_kept}
use Rattle.roster_partial.specs.Rates.{most_offers}
use Rattle.roster_partial.proofs.CountLaws.{closer_limits, first_limits}
use Rattle.roster_partial.proofs.search.search_partial.Goals as goal

pub returns-in_err-best-clause-counted : goal.returns-in_err-best-clause-counted
returns-in_err-best-clause-counted c =
    let search = c.args.bounded.now.search in
    first_limits search.case.now search.nurse (offers_on search.offers.now) _ _ _ _ c.set_best_bounds.ensures.counted (omega arith) (omega arith)

pub returns-in-Some-clause-counted : goal.returns-in-Some-clause-counted
returns-in-Some-clause-counted c =
    let search = c.args.bounded.now.search in
    first_limits search.case.now search.nurse (offers_on search.offers.now) _ _ _ _ c.set_best_bounds.ensures.counted c.try_limits.ensures.counted.0 c.try_limits.ensures.brief

pub returns-then-not-pays-clause-counted : goal.returns-then-not-pays-clause-counted
returns-then-not-pays-clause-counted c =
    let search = c.args.bounded.now.search in
    first_limits search.case.now search.nurse (offers_on search.offers.now) _ _ _ _ c.set_best_bounds.ensures.counted c.try_limits.ensures.counted.0 c.try_limits.ensures.brief

pub returns-in_err-cost-clause-counted : goal.returns-in_err-cost-clause-counted
returns-in_err-cost-clause-counted c =
    let search = c.args.bounded.now.search in
    let again = subst (λ cells. c.try_limits-2.new.meter ≤ c.set_closer_bounds-closer.new.meter + 24 * (most_offers * rows_kept cells)) c.try_limits.auto.rows c.try_limits-2.ensures.brief in
    closer_limits search.case.now search.nurse (offers_on search.offers.now) _ _ _ _ _ _ c.set_best_bounds.ensures.counted c.try_limits.ensures.counted.0 c.try_limits.ensures.brief c.set_closer_bounds-closer.ensures.counted c.try_limits-2.ensures.counted.0 again

pub returns-clause-counted : goal.returns-clause-counted
returns-clause-counted c =
    let search = c.args.bounded.now.search in
    let again = subst (λ cells. c.try_limits-2.new.meter ≤ c.set_closer_bounds-closer.new.meter + 24 * (most_offers * rows_kept cells)) c.try_limits.auto.rows c.try_limits-2.ensures.brief in
    closer_limits search.case.now search.nurse (offers_on search.offers.now) _ _ _ _ _ _ c.set_best_bounds.ensures.counted c.try_limits.ensures.counted.0 c.try_limits.ensures.brief c.set_closer_bounds-closer.ensures.counted c.try_limits-2.ensures.counted.0 again
