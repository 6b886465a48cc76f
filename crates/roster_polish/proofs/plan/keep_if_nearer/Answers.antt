use Rattle.std.proofs.Common.{◌≡◌, subst, sym, true}
use Rattle.roster_instance.specs.Rosters.{Rows, fits_case}
use Rattle.roster_polish.proofs.Keeping.{same_days}
use Rattle.roster_polish.proofs.plan.keep_if_nearer.Goals as goal

pub put_rows-requires : goal.put_rows-requires
put_rows-requires g c = same_days c.args.case.now c.args.space.now.faded c.args.space.now.kept c.requires.fits.faded c.requires.fits.kept

pub returns-clause-fits : goal.returns-clause-fits
returns-clause-fits g c =
    let before = c.requires.fits in
    record {
      bounds = before.bounds;
      recalls = before.recalls;
      kept_recalls = before.kept_recalls;
      fade_recalls = before.fade_recalls;
      dearer = before.dearer;
      kept = subst (λ (r : Rows). fits_case c.args.case.now r ≡ true) (sym c.put_rows.ensures) before.faded;
      fade_prices = before.fade_prices;
      faded = before.faded;
      best = before.best;
      first_prices = before.first_prices;
      count = before.count;
      order = before.order;
    }
