use Rattle.std.proofs.Common.{ap, sym}
use Rattle.roster_partial.specs.declared.rows.Entry.{Entry}
use Rattle.roster_partial.proofs.RowCells.{at-rows_in}
use Rattle.roster_partial.proofs.rows.cost_at.Goals as goal

pub returns : goal.returns
returns c = ap (λ (e : Entry). e.cost) (sym (at-rows_in c.args.cells.now c.args.index _ c.requires.inside))
