use Rattle.roster_polish.proofs.Keeping.{same_days}
use Rattle.roster_polish.proofs.near.find_rows.Goals as goal

pub put_rows-requires : goal.put_rows-requires
put_rows-requires g c = same_days c.args.base.now.case.now c.args.base.now.given.now c.args.space.now.faded c.args.base.now.fits c.requires.able.fits.faded
