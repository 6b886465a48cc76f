use Rattle.std.proofs.Common.{◌≡◌, ◌∙◌, ap, arith, subst, sym}
use Rattle.std.proofs.lemmas.Result.{err_from_is_err_and}
use Rattle.roster_text.specs.Io.{BreaksIn, Sends, Writes}
use Rattle.roster_text.proofs.Texts.{BreaksIn-after, BreaksIn-append, Sends-append, Sends-nil, StopsIn-from_breaks_in}
use Rattle.roster_instance.specs.Meaning.{week_count}
use Rattle.roster_reports.proofs.WeekLemmas.{front_text, front_text-all, front_text-front, front_text-more, week_piece}
use Rattle.roster_reports.proofs.weeks.write_weeks.Goals as goal

pub loop-week-init : goal.loop-week-init
loop-week-init g c = Sends-nil g.W.Write.contents c.args.output.now 0 (omega arith)

pub returns-in_err-sent-clause-err : goal.returns-in_err-sent-clause-err
returns-in_err-sent-clause-err g c =
    let contents = g.W.Write.contents in
    let new = c.send_week.new.output in
    let case = c.args.case.now in
    let roster = c.args.roster.now in
    let i = c.loop-week.week in
    let fault = c.in_err-sent.field-0.0 in
    let front = front_text-front case roster i (week_count case) (omega (arith, c.loop-week-test.true, c.weeks-week-end.ensures.count)) in
    let p = err_from_is_err_and c.from_residual.result c.from_residual.ensures.1 in
    let breaks =
    BreaksIn-append contents c.args.output.now new 0 _ front.0 fault
    (BreaksIn-after contents c.args.output.now c.loop-week.output new 0 c.loop-week.sent (front_text case roster i) (week_piece case roster i) fault c.loop-week.invariant c.in_err-sent.ensures.err) in
    rw (p.1, p.2) (StopsIn-from_breaks_in contents c.args.output.now new _ fault
    (subst (λ text. BreaksIn contents c.args.output.now new 0 text fault) (sym (front_text-all case roster ∙ front.1)) breaks))

pub loop-week-preserved : goal.loop-week-preserved
loop-week-preserved g c =
    let case = c.args.case.now in
    let roster = c.args.roster.now in
    let i = c.loop-week.week in
    subst (Sends g.W.Write.contents c.args.output.now c.send_week.new.output 0 c.in_ok-sent.sent) (sym (front_text-more case roster i))
    (Sends-append g.W.Write.contents c.args.output.now c.loop-week.output c.send_week.new.output 0 c.loop-week.sent c.in_ok-sent.sent (front_text case roster i) (week_piece case roster i) c.loop-week.invariant c.in_ok-sent.ensures.ok)

pub returns-clause-ok : goal.returns-clause-ok
returns-clause-ok g c =
    let case = c.args.case.now in
    let roster = c.args.roster.now in
    let all : c.loop-week.week ≡ week_count case = omega (arith, c.loop-week-test.false, c.loop-week.auto.week-end, c.weeks-week-end.ensures.count) in
    subst (Writes g.W.Write.contents c.args.output.now c.loop-week.output) (ap (front_text case roster) all ∙ sym (front_text-all case roster)) c.loop-week.invariant.writes
