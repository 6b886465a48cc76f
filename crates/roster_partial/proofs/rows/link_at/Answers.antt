use Rattle.std.proofs.Common.{ap, sym}
use Rattle.roster_partial.specs.declared.rows.Entry.{Entry}
use Rattle.roster_partial.proofs.RowCells.{at-rows_in}
use Rattle.roster_partial.proofs.rows.link_at.Goals as goal

pub returns-clause-before : goal.returns-clause-before
returns-clause-before c = ap (λ (e : Entry). e.before) (sym (at-rows_in c.args.cells.now c.args.index _ c.requires.inside))

pub returns-clause-offer : goal.returns-clause-offer
returns-clause-offer c = ap (λ (e : Entry). e.offer) (sym (at-rows_in c.args.cells.now c.args.index _ c.requires.inside))
