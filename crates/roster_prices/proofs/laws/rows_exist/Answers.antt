use Rattle.roster_prices.proofs.RowBounds.{have_rows}
use Rattle.roster_prices.proofs.laws.rows_exist.Goals as goal

pub returns : goal.returns
returns c = have_rows c.args.case.now c.args.from c.args.given.now c.requires.fits c.requires.keeps
