use Rattle.roster_offers.proofs.WorkspaceLaws.{fits_after}
use Rattle.roster_offers.proofs.days.put_offers.Goals as goal

pub returns-clause-fits : goal.returns-clause-fits
returns-clause-fits g c = fits_after c.args.case.now c.args.workspace.now c.loop-day.workspace c.loop-day.invariant.same_capacity c.requires.fits
