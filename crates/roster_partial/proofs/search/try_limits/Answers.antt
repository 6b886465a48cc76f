use Rattle.std.proofs.Common.{◌+◌, ◌*◌, ◌≤◌, arith, length, subst}
use Rattle.roster_partial.specs.Counts.{rows_kept}
use Rattle.roster_partial.specs.Rates.{most_offers}
use Rattle.roster_partial.proofs.CountLaws.{limit_more, limits_within}
use Rattle.roster_partial.proofs.search.try_limits.Goals.{After-search_within}

-- what a limit more counts: the list keeps its cells
here : (c : After-search_within) → c.search_within.new.meter ≤ c.limits.meter + most_offers * rows_kept (length c.args.rows.now)
here c = subst (λ cells. c.search_within.new.meter ≤ c.limits.meter + most_offers * rows_kept cells) c.limits.auto.rows c.search_within.ensures.brief

-- what is counted with one limit more
brief : (c : After-search_within) → c.search_within.new.meter ≤ c.args.meter.now + 24 * (most_offers * rows_kept (length c.args.rows.now))
brief c =
    let most = most_offers * rows_kept (length c.args.rows.now) in
    limits_within c.args.meter.now c.search_within.new.meter (c.limits._tried + 1) 24 most (omega (arith, c.limits-test.true)) (limit_more c.args.meter.now c.limits.meter c.search_within.new.meter c.limits._tried most c.limits.invariant.rows (here c))
