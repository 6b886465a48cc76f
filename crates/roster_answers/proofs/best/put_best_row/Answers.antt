use Rattle.std.proofs.Common.{◌≡◌, ◌∙◌, ◌++◌, ap, codes, subst, sym, true}
use Rattle.std.proofs.lemmas.Result.{err_from_is_err_and}
use Rattle.roster_text.specs.Io.{Stops, Writes}
use Rattle.roster_text.proofs.Texts.{Stops-after, Stops-append, Writes-append}
use Rattle.roster_instance.specs.Meaning.{Meaning}
use Rattle.roster_rules.specs.AllowedRows.{row_keeps}
use Rattle.roster_case.specs.Held.{HeldRoster}
use Rattle.roster_rules.specs.Improver.{line, start_word}
use Rattle.roster_rules.specs.Penalties.{penalty}
use Rattle.roster_instance.specs.Rosters.{Rows, with_row}
use Rattle.roster_answers.specs.Answer.{with_best}
use Rattle.roster_answers.proofs.BestLemmas.{best_put, total_put}
use Rattle.roster_answers.proofs.best.put_best_row.Goals as goal

pub returns-in_err-write_start-clause-err : goal.returns-in_err-write_start-clause-err
returns-in_err-write_start-clause-err g c =
    let contents = g.Log.Write.contents in
    let old = c.args.log.now in
    let mid = c.write_start.new.log in
    let now = c.args.held.now in
    let stops = subst (λ t. Stops contents old mid (line (start_word now.case) t)) c.total.ensures.total (subst (λ (m : Meaning). Stops contents old mid (line (start_word m) c.total.result)) c.case.ensures c.in_err-write_start.ensures.err) in
    let p = err_from_is_err_and c.from_residual.result c.from_residual.ensures.1 in
    rw p.1
    (Stops-append contents old mid (line (start_word now.case) (penalty now.case now.roster)) (line (codes "best " ++ c.args.name.now) (penalty now.case (with_best now.case c.args.from now.roster c.args.nurse))) stops)

pub returns-in_err-write_best-clause-err : goal.returns-in_err-write_best-clause-err
returns-in_err-write_best-clause-err g c =
    let contents = g.Log.Write.contents in
    let old = c.args.log.now in
    let mid = c.write_start.new.log in
    let new = c.write_best.new.log in
    let now = c.args.held.now in
    let n = c.args.nurse in
    let row = c.best_row-best.new.workspace.row in
    let start = subst (λ t. Writes contents old mid (line (start_word now.case) t)) c.total.ensures.total (subst (λ (m : Meaning). Writes contents old mid (line (start_word m) c.total.result)) c.case.ensures c.in_ok-write_start.ensures.ok) in
    let total = total_put now.case c.args.from now.roster n row c.best_row-best.ensures.best c.best_row-best.result.total c.best_row-best.ensures.total in
    let stops = subst (λ t. Stops contents mid new (line (codes "best " ++ c.args.name.now) t)) total c.in_err-write_best.ensures.err in
    let p = err_from_is_err_and c.from_residual-in_err-write_best.result c.from_residual-in_err-write_best.ensures.1 in
    rw p.1
    (Stops-after contents old mid new (line (start_word now.case) (penalty now.case now.roster)) (line (codes "best " ++ c.args.name.now) (penalty now.case (with_best now.case c.args.from now.roster n))) start stops)

pub replace_row-requires-clause-keeps : goal.replace_row-requires-clause-keeps
replace_row-requires-clause-keeps g c =
    let now = c.args.held.now in
    subst (λ row. row_keeps now.case now.roster c.args.nurse row ≡ true) (sym c.row.ensures) c.best_row-best.ensures.keeps

pub returns-clause-put : goal.returns-clause-put
returns-clause-put g c =
    let now = c.args.held.now in
    let n = c.args.nurse in
    let with_roster : Rows → HeldRoster = λ r. record { case = now.case; roster = r } in
    c.replace_row.ensures
    ∙ ap with_roster (ap (with_row now.roster n) c.row.ensures ∙ best_put now.case c.args.from now.roster n c.best_row-best.new.workspace.row c.best_row-best.ensures.best)

pub returns-clause-ok : goal.returns-clause-ok
returns-clause-ok g c =
    let contents = g.Log.Write.contents in
    let old = c.args.log.now in
    let mid = c.write_start.new.log in
    let new = c.write_best.new.log in
    let now = c.args.held.now in
    let n = c.args.nurse in
    let row = c.best_row-best.new.workspace.row in
    let start = subst (λ t. Writes contents old mid (line (start_word now.case) t)) c.total.ensures.total (subst (λ (m : Meaning). Writes contents old mid (line (start_word m) c.total.result)) c.case.ensures c.in_ok-write_start.ensures.ok) in
    let total = total_put now.case c.args.from now.roster n row c.best_row-best.ensures.best c.best_row-best.result.total c.best_row-best.ensures.total in
    let best = subst (λ t. Writes contents mid new (line (codes "best " ++ c.args.name.now) t)) total c.in_ok-write_best.ensures.ok in
    Writes-append contents old mid new (line (start_word now.case) (penalty now.case now.roster)) (line (codes "best " ++ c.args.name.now) (penalty now.case (with_best now.case c.args.from now.roster n))) start best
