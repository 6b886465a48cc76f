use Rattle.std.proofs.Common.{◌≡◌, ◌∙◌, subst, sym, true}
use Rattle.roster_instance.specs.Rosters.{is_row_of}
use Rattle.roster_rules.specs.AllowedRows.{keeps_frozen_days}
use Rattle.roster_rules.proofs.RowFits.{fits-with_row}
use Rattle.roster_slots.specs.Tables.{slot_prices}
use Rattle.roster_polish.proofs.FadeRows.{found_fits, found_stays, put_stays, same_length}
use Rattle.roster_polish.proofs.fade.fade_nurse.Goals as goal
use Rattle.roster_polish.proofs.fade.fade_nurse.Goals.{then-searched, else-searched}

pub put_row-requires-clause-days : goal.put_row-requires-clause-days
put_row-requires-clause-days g c =
    let k = c.args.base.now.case.now in
    let n = c.args.turn.nurse in
    let row = c.visit-searched.new.workspace.row in
    let fits : is_row_of k row ≡ true = found_fits k c.args.base.now.from c.args.base.now.given.now c.args.base.now.scale (slot_prices c.args.base.now.scale c.take_row.new.fade_prices) n row (c.visit-searched.ensures.row c.if-searched.true) in
    same_length k c.args.space.now.faded n c.row-then-searched.result.now c.requires.fits.faded c.requires.nurse (subst (λ own. is_row_of k own ≡ true) (sym c.row-then-searched.ensures) fits)

pub returns-clause-frozen : goal.returns-clause-frozen
returns-clause-frozen g c =
    let k = c.args.base.now.case.now in
    let from = c.args.base.now.from in
    let given = c.args.base.now.given.now in
    let n = c.args.turn.nurse in
    let row = c.visit-searched.new.workspace.row in
    elim c.if-searched.branch [
      | then-searched w ↦ (
          let is = c.visit-searched.ensures.row w.if-searched.true in
          let stays : keeps_frozen_days k from given n row ≡ true = found_stays k from given c.args.base.now.scale (slot_prices c.args.base.now.scale c.take_row.new.fade_prices) n row is in
          rw (w.faded-is, w.put_row.ensures, w.row-then-searched.ensures) (put_stays k from given c.args.space.now.faded n row c.requires.frozen stays))
      | else-searched w ↦ rw (w.faded-is) c.requires.frozen
    ]

pub returns-clause-fits : goal.returns-clause-fits
returns-clause-fits g c =
    let k = c.args.base.now.case.now in
    let from = c.args.base.now.from in
    let given = c.args.base.now.given.now in
    let n = c.args.turn.nurse in
    let row = c.visit-searched.new.workspace.row in
    let before = c.requires.fits in
    record {
      bounds = c.put_row-2.ensures.fits;
      recalls = before.recalls;
      fade_recalls = (c.args.base.now.scale, c.visit-searched.ensures.recalls);
      kept_recalls = before.kept_recalls;
      dearer = before.dearer;
      kept = before.kept;
      fade_prices = c.put_row-2.ensures.days ∙ c.take_row.ensures.days ∙ before.fade_prices;
      faded = elim c.if-searched.branch [
        | then-searched w ↦ (
            let is = c.visit-searched.ensures.row w.if-searched.true in
            let fits : is_row_of k row ≡ true = found_fits k from given c.args.base.now.scale (slot_prices c.args.base.now.scale c.take_row.new.fade_prices) n row is in
            rw (w.faded-is, w.put_row.ensures, w.row-then-searched.ensures) (fits-with_row k c.args.space.now.faded n row before.faded fits))
        | else-searched w ↦ rw (w.faded-is) before.faded
      ];
      best = before.best;
      first_prices = before.first_prices;
      count = before.count;
      order = before.order;
    }

-- the memory of the bound fits as it did: a search stays in its workspace
pub put_row-requires-2-clause-fits : goal.put_row-requires-2-clause-fits
put_row-requires-2-clause-fits g c =
    let before = c.take_row.ensures.fits in
    record {
      rows = record { search = c.visit-searched.ensures.fits; cover = before.rows.cover };
      dual_prices = before.dual_prices;
      aside = before.aside;
      subgradient = before.subgradient;
      direction = before.direction;
      pool = before.pool;
    }
