use Rattle.roster_polish.proofs.Keeping.{same_days}
use Rattle.roster_polish.proofs.plan.begin_plan.Goals as goal

pub put_rows-requires : goal.put_rows-requires
put_rows-requires g c = same_days c.args.base.now.case.now c.args.base.now.given.now c.improve_prices.new.self.kept c.args.base.now.fits c.improve_prices.ensures.fits.kept
