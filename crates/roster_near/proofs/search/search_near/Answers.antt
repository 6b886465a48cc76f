use Rattle.std.proofs.Common.{arith}
use Rattle.roster_near.proofs.Spent.{spent_less}
use Rattle.roster_near.proofs.search.search_near.Goals as goal

pub returns-clause-gone : goal.returns-clause-gone
returns-clause-gone g c =
    let gone = c.try_one-found.ensures.gone in
    record {
      bounds = gone.bounds;
      spends = spent_less c.args.base.now.case.now c.args.meter.now c.args.left c.try_one-found.new.meter c.try_one-found.new.budget.left _ (omega (arith, c.saturating_sub.ensures)) gone.spends;
    }

pub returns-clause-fewer : goal.returns-clause-fewer
returns-clause-fewer g c some = omega (arith, some, c.try_one-found.ensures.gone.spends.fewer, c.max-besides.ensures, c.saturating_sub.ensures)
