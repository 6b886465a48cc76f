use Rattle.std.proofs.Common.{rules, ◌≡◌, ◌∙◌, ap, subst, sym, true}
use Rattle.roster_instance.specs.Rosters.{Rows, fits_case, with_row}
use Rattle.roster_rules.proofs.RowFits.{fits-with_row}
use Rattle.roster_who.proofs.TakerLemmas.{put_back}
use Rattle.roster_who.proofs.figures.taker_by.Goals as goal
use Rattle.roster_who.proofs.figures.taker_by.Goals.{After-put_row}

-- the roster with the row put in
put : (c : After-put_row) → c.put_row.new.self ≡ with_row c.args.asking.now.roster.now c.args.nurse c.args.row.now
put c = c.put_row.ensures ∙ ap (λ (rows : Rows). with_row rows c.args.nurse c.args.row.now) c.requires.trial

fits : (c : After-put_row) → fits_case c.args.asking.now.case.now c.put_row.new.self ≡ true
fits c =
    let k = c.args.asking.now.case.now in
    subst (λ (rows : Rows). fits_case k rows ≡ true) (sym (put c)) (fits-with_row k c.args.asking.now.roster.now c.args.nurse c.args.row.now (search rules) c.requires.row)

pub missed-requires : goal.missed-requires
missed-requires c = record { fits = fits (goal.at.missed-requires c).After-put_row }

pub penalty-requires : goal.penalty-requires
penalty-requires c = record { fits = fits (goal.at.penalty-requires c).After-put_row }

pub returns-clause-trial : goal.returns-clause-trial
returns-clause-trial c =
    let k = c.args.asking.now.case.now in
    let r = c.args.asking.now.roster.now in
    c.put_row-2.ensures
    ∙ (λ i. with_row (put (goal.at.returns-clause-trial c).After-put_row i) c.args.nurse (c.row-2.ensures i))
    ∙ put_back k r c.args.nurse c.args.row.now (search rules) c.requires.nurse c.requires.row ∙ sym c.requires.trial
