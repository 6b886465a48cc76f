use Rattle.roster_row.proofs.RecallLaws.{forgets}
use Rattle.roster_polish.proofs.Keeping.{same_days}
use Rattle.roster_polish.proofs.space.PolishSpace.begin_fade.Goals as goal

pub put_rows-requires : goal.put_rows-requires
put_rows-requires g c = same_days c.args.case.now c.args.given.now c.args.self.now.faded c.requires.given c.requires.fits.faded

pub returns-clause-recalls : goal.returns-clause-recalls
returns-clause-recalls g c =
    let last = c.requires.fits.fade_recalls.1 in
    λ scale. forgets c.args.case.now scale c.args.self.now.fade_last c.forget.new.self last.nurses last.days c.forget.ensures.prices c.forget.ensures.costs
