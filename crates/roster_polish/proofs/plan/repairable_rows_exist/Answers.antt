use Rattle.roster_polish.proofs.PlanRows.{repairable_rows}
use Rattle.roster_polish.proofs.plan.repairable_rows_exist.Goals as goal

pub returns : goal.returns
returns c = repairable_rows c.args.case.now c.args.from c.args.roster.now c.requires.fits c.requires.repairable
