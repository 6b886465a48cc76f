use Rattle.std.proofs.Common.{◌≡◌, ◌∙◌, ap, ap₂, arith, le-ltb, nat_lt, not, sym}
use Rattle.roster_instance.specs.Rosters.{with_row}
use Rattle.roster_rules.specs.AllowedRows.{best_row}
use Rattle.roster_rules.specs.Improver.{same_rows, step}
use Rattle.roster_rules.specs.Penalties.{penalty}
use Rattle.roster_case.specs.Held.{HeldRoster}
use Rattle.roster_laws.proofs.Steps.{changed_is_cheaper, left_out, put_in}
use Rattle.roster_rounds.proofs.nurse.put_in_cheaper.Goals as goal
use Rattle.roster_rounds.proofs.nurse.put_in_cheaper.Goals.{else-changed, then-changed}

pub returns-clause-roster : goal.returns-clause-roster
returns-clause-roster g c from best =
    let k = c.args.held.now.case in
    let rows = c.args.held.now.roster in
    let n = c.args.nurse in
    let row = c.args.workspace.now.row in
    elim c.if-changed.branch [
      | then-changed w ↦
          ap (λ (h : HeldRoster). h.roster) (w.held-is ∙ w.replace_row.ensures) ∙ ap (with_row rows n) w.row.ensures
          ∙ sym (put_in k from rows n row best (omega (arith, c.requires.total, c.total-before.ensures.total, w.if-changed.true)))
      | else-changed w ↦
          ap (λ (h : HeldRoster). h.roster) w.held-is
          ∙ sym (left_out k from rows n row best (omega (arith, c.requires.total, c.total-before.ensures.total, w.if-changed.false)))
    ]

pub returns-clause-changed : goal.returns-clause-changed
returns-clause-changed g c =
    let k = c.args.held.now.case in
    let rows = c.args.held.now.roster in
    let n = c.args.nurse in
    let from = c.requires.best.0 in
    let best = c.requires.best.1 in
    let row = c.args.workspace.now.row in
    let next = step k (best_row k from) rows n in
    let before = c.total-before.ensures.total in
    let cheaper : nat_lt c.args.best.total c.total-before.result ≡ nat_lt (penalty k next) (penalty k rows) =
    elim c.if-changed.branch [
      | then-changed w ↦
          let is = put_in k from rows n row best (omega (arith, c.requires.total, before, w.if-changed.true)) in
          ap₂ nat_lt (c.requires.total ∙ sym (ap (penalty k) is)) before
      | else-changed w ↦
          let is = left_out k from rows n row best (omega (arith, c.requires.total, before, w.if-changed.false)) in
          le-ltb c.args.best.total c.total-before.result w.if-changed.false ∙ sym (le-ltb (penalty k next) (penalty k rows) (omega (arith, ap (penalty k) is)))
    ] in
    cheaper ∙ sym (changed_is_cheaper k (best_row k from) rows n) ∙ ap (λ r. not (same_rows r rows)) (sym (returns-clause-roster g c from best))
