use Rattle.roster_polish.proofs.Fading.{faded_then}
use Rattle.roster_polish.proofs.Steps.{rest_fits_meter}
use Rattle.roster_polish.proofs.plan.fade_and_repair.Goals as goal

pub repair_rows-requires-clause-able : goal.repair_rows-requires-clause-able
repair_rows-requires-clause-able g c =
    record { fits = c.fade_rows.ensures.faded.fits; room = rest_fits_meter c.args.base.now.case.now c.args.meter.now c.args.kicking.now.searches.left c.fade_rows.new.meter c.fade_rows.new.kicking.searches.left 18446744073709551615 c.fade_rows.ensures.faded.spends c.requires.able.room }

pub returns-clause-faded : goal.returns-clause-faded
returns-clause-faded g c = faded_then c.fade_rows.ensures.faded c.repair_rows.ensures.faded
