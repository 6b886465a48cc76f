use Rattle.std.proofs.Common.{◌≡◌, ◌∙◌, sym, true}
use Rattle.roster_instance.specs.Rosters.{is_row_of}
use Rattle.roster_rules.proofs.RowFits.{fits-with_row}
use Rattle.roster_polish.proofs.FadeRows.{put_stays}
use Rattle.roster_polish.proofs.near.put_row.Goals as goal

pub returns-clause-fits : goal.returns-clause-fits
returns-clause-fits c =
    let k = c.args.base.now.case.now in
    let row = c.args.row.now in
    let is : is_row_of k row ≡ true = sym c.row_fits.ensures ∙ c.if-not-row_fits.false in
    rw c.put_row.ensures (fits-with_row k c.args.faded.now c.args.nurse row c.requires.fits is)

pub returns-clause-frozen : goal.returns-clause-frozen
returns-clause-frozen c =
    let base = c.args.base.now in
    rw c.put_row.ensures (put_stays base.case.now base.from base.given.now c.args.faded.now c.args.nurse c.args.row.now c.requires.frozen (sym c.keeps_frozen_days.ensures ∙ c.if-not-keeps_frozen_days.false))
