use Rattle.std.proofs.Common.{◌+◌, ◌*◌, arith, refl}
use Rattle.std.proofs.lemmas.Grind.{get_or-set_at}
use Rattle.std.proofs.lemmas.List.{get_or-set_other}
use Rattle.roster_offers.specs.Lists.{no_row}
use Rattle.roster_partial.proofs.RowCells.{marked}
use Rattle.roster_partial.proofs.rows.mark_dominated.Goals as goal

pub returns-clause-rows : goal.returns-clause-rows
returns-clause-rows c =
    let cells = c.args.cells.now in
    let at = 4 * c.args.index + 1 in
    marked cells _ c.args.index no_row (get_or-set_at cells at at no_row 0 refl (omega (arith, c.requires.kept, c.requires.inside))) (λ j apart. get_or-set_other cells at j no_row 0 apart)
    c.requires.inside (get_or-set_other cells at 0 no_row 0 (λ e. absurd (omega (arith, e))))
