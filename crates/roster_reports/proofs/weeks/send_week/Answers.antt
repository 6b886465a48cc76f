use Rattle.std.proofs.Common.{[], ap, arith, codes, cond, nat_lt, sym, subst, lt-ltb, le-ltb}
use Rattle.std.proofs.lemmas.Result.{err_from_is_err_and}
use Rattle.roster_bundle.specs.Canonical.{canonical}
use Rattle.roster_text.specs.Io.{BreaksIn, Sends}
use Rattle.roster_text.proofs.Texts.{BreaksIn-append, Sends-nil}
use Rattle.roster_case.specs.Shown.{WeekOf, shown_week}
use Rattle.roster_reports.proofs.WeekLemmas.{IfErr-after, IfOk-after}
use Rattle.roster_reports.proofs.weeks.send_week.Given as given
use Rattle.roster_reports.proofs.weeks.send_week.Goals as goal
use Rattle.roster_reports.proofs.weeks.send_week.Goals.{then-week-gt0+in_ok-sent, else-week-gt0}

-- the empty line before every week but the first
front_sent : (g : given.Over) (c : goal.After-send_solution g) → Sends g.W.Write.contents c.args.output.now c.if-week-gt0.output c.args.sent c.if-week-gt0.sent (cond (nat_lt 0 c.args.week) (codes "\n") [])
front_sent g c =
    let contents = g.W.Write.contents in
    elim c.if-week-gt0.branch [
      | then-week-gt0+in_ok-sent w ↦ (let here = subst (λ n. Sends contents c.args.output.now c.if-week-gt0.output c.args.sent n (codes "\n")) (sym w.sent-is) (subst (λ o. Sends contents c.args.output.now o c.args.sent w.in_ok-sent.sent (codes "\n")) (sym w.output-is) w.in_ok-sent.ensures.ok) in
          subst (λ b. Sends contents c.args.output.now c.if-week-gt0.output c.args.sent c.if-week-gt0.sent (cond b (codes "\n") [])) (sym (lt-ltb 0 c.args.week w.if-week-gt0.true)) here)
      | else-week-gt0 w ↦ (let here = subst (λ n. Sends contents c.args.output.now c.if-week-gt0.output c.args.sent n []) (sym w.sent-is) (subst (λ o. Sends contents c.args.output.now o c.args.sent c.args.sent []) (sym w.output-is) (Sends-nil contents c.args.output.now c.args.sent (omega (arith, c.ranges.sent.fits)))) in
          subst (λ b. Sends contents c.args.output.now c.if-week-gt0.output c.args.sent c.if-week-gt0.sent (cond b (codes "\n") [])) (sym (le-ltb 0 c.args.week w.if-week-gt0.false)) here)
    ]

pub returns-in_err-sent-clause-err : goal.returns-in_err-sent-clause-err
returns-in_err-sent-clause-err g c =
    let contents = g.W.Write.contents in
    let text = canonical (shown_week c.args.case.now c.args.roster.now c.args.week) in
    let p = err_from_is_err_and c.from_residual.result c.from_residual.ensures.1 in
    let front = subst (λ b. BreaksIn contents c.args.output.now c.send_pieces.new.out c.args.sent (cond b (codes "\n") []) c.in_err-sent.field-0.0) (sym (lt-ltb 0 c.args.week c.if-week-gt0.true)) c.in_err-sent.ensures.err in
    rw (p.1, p.2) (BreaksIn-append contents c.args.output.now c.send_pieces.new.out c.args.sent _ text c.in_err-sent.field-0.0 front)

pub returns-clause-ok : goal.returns-clause-ok
returns-clause-ok g c =
    IfOk-after g.W.Write.contents c.args.output.now c.if-week-gt0.output c.send_solution.new.out c.args.sent c.if-week-gt0.sent _ (canonical (shown_week c.args.case.now c.args.roster.now c.args.week)) (front_sent g c)
    c.send_solution.result _ (ap (λ (v : WeekOf). canonical (shown_week v.case v.roster v.week)) c.of.ensures) c.send_solution.ensures.ok

pub returns-clause-err : goal.returns-clause-err
returns-clause-err g c =
    IfErr-after g.W.Write.contents c.args.output.now c.if-week-gt0.output c.send_solution.new.out c.args.sent c.if-week-gt0.sent _ (canonical (shown_week c.args.case.now c.args.roster.now c.args.week)) (front_sent g c)
    c.send_solution.result _ (ap (λ (v : WeekOf). canonical (shown_week v.case v.roster v.week)) c.of.ensures) c.send_solution.ensures.err
