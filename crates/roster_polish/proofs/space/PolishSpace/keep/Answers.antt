use Rattle.std.proofs.Common.{◌≡◌, ◌∙◌, ap, length, map, refl, subst, sym, true}
use Rattle.roster_instance.specs.Rosters.{Row, Rows, fits_case}
use Rattle.roster_polish.proofs.Keeping.{same_days}
use Rattle.roster_polish.proofs.space.PolishSpace.keep.Goals as goal

pub put_rows-requires : goal.put_rows-requires
put_rows-requires g c =
    ap (λ (rows : Rows). map (λ (row : Row). length row) rows) c.roster.ensures.roster
    ∙ same_days c.args.held.now.case c.args.held.now.roster c.args.self.now.kept c.roster.ensures.fits c.requires.kept

pub put-requires : goal.put-requires
put-requires g c = (c.args.held.now.case, c.requires.kept_recalls, c.requires.recalls)

pub returns : goal.returns
returns g c =
    let kept : c.put_rows.new.self ≡ c.args.held.now.roster = c.put_rows.ensures ∙ c.roster.ensures.roster in
    record {
      kept = kept;
      faded = refl;
      best = refl;
      fits = record {
        bounds = c.requires.bounds;
        recalls = c.requires.recalls;
        kept_recalls = c.put.ensures.recalls c.args.held.now.case c.requires.recalls;
        dearer = c.requires.dearer;
        fade_recalls = c.requires.fade_recalls;
        kept = subst (λ (rows : Rows). fits_case c.args.held.now.case rows ≡ true) (sym kept) c.roster.ensures.fits;
        fade_prices = c.requires.fade_prices;
        faded = c.requires.faded;
        best = c.requires.best;
        first_prices = c.requires.first_prices;
        count = c.requires.count;
        order = c.requires.order;
      };
    }
