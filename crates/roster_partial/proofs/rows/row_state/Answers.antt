use Rattle.std.proofs.Common.{◌∙◌, ◌/◌, ◌%◌, ◌+◌, ◌*◌, ap, slice_index_or, sym}
use Rattle.roster_rules.specs.Prefix.{Summary}
use Rattle.roster_state.specs.Transition.{with_assignments, with_weekends}
use Rattle.roster_partial.specs.declared.rows.Entry.{Entry}
use Rattle.roster_partial.proofs.RowCells.{at-rows_in}
use Rattle.roster_partial.proofs.rows.row_state.Goals as goal

pub returns : goal.returns
returns c =
    let counts = slice_index_or c.args.cells.now (4 * c.args.index + 3) 0 in
    c.state.ensures
    ∙ ap (λ (s : Summary). with_assignments s (counts / 65536)) (c.with_weekends.ensures ∙ ap (λ (s : Summary). with_weekends s (counts % 65536)) c.of_runs.ensures)
    ∙ ap (λ (e : Entry). e.state) (sym (at-rows_in c.args.cells.now c.args.index _ c.requires.inside))
