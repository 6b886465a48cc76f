use Rattle.std.proofs.Common.{arith, refl}
use Rattle.std.proofs.lemmas.Grind.{get_or-set_at}
use Rattle.roster_partial.proofs.RowCells.{none-rows_in}
use Rattle.roster_partial.proofs.rows.clear_rows.Goals as goal

pub returns-clause-rows : goal.returns-clause-rows
returns-clause-rows c = none-rows_in _ (get_or-set_at c.args.cells.now 0 0 0 0 refl (omega (arith, c.requires)))
