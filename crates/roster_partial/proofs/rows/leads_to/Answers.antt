use Rattle.std.proofs.Common.{◌≡◌, ◌∙◌, ◌/◌, ◌%◌, ◌+◌, ◌*◌, ap, slice_index_or}
use Rattle.std.proofs.lemmas.Bool.{eqb-true}
use Rattle.roster_state.specs.Codes.{shift_digit, shift_numbered}
use Rattle.roster_state.proofs.CodeLemmas.{shift_numbered-shift_digit}
use Rattle.roster_partial.specs.declared.rows.Entry.{Entry}
use Rattle.roster_partial.proofs.RowCells.{at-rows_in}
use Rattle.roster_partial.proofs.rows.leads_to.Goals as goal

pub returns : goal.returns
returns c e =
    let state = c.args.state.now in
    let link = slice_index_or c.args.cells.now (4 * c.args.index + 4) 0 in
    let digit : link % 16 ≡ shift_digit state.last = eqb-true _ _ e ∙ c.last_number.ensures.number in
    let last = ap shift_numbered digit ∙ shift_numbered-shift_digit state.last in
    let run = ap (λ n. n / 65536) c.if-cells-first.false ∙ c.runs_cell.ensures.run in
    let shift_run = ap (λ n. n % 65536) c.if-cells-first.false ∙ c.runs_cell.ensures.shift_run in
    let assignments = ap (λ n. n / 65536) c.if-cells-first-2.false ∙ c.counts_cell.ensures.assignments in
    let weekends = ap (λ n. n % 65536) c.if-cells-first-2.false ∙ c.counts_cell.ensures.weekends in
    ap (λ (e : Entry). e.state) (at-rows_in c.args.cells.now c.args.index _ c.requires.inside)
    ∙ (λ i. record { last = last i; run = run i; shift_run = shift_run i; assignments = assignments i; weekends = weekends i })
