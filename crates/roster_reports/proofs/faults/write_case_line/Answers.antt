use Rattle.std.proofs.Common.{ap, subst, sym}
use Rattle.std.specs.Prelude.{IfErr, OnOk}
use Rattle.roster_text.specs.Io.{StopsIn, Writes}
use Rattle.roster_reports.specs.Lines.{case_line}
use Rattle.roster_reports.proofs.faults.write_case_line.Goals as goal

pub returns-in-OtherInstance-clause-err : goal.returns-in-OtherInstance-clause-err
returns-in-OtherInstance-clause-err g c =
    let out = c.write_at-in-OtherInstance in
    subst (λ line. IfErr out.result (StopsIn g.Log.Write.contents c.args.log.now out.new.log line)) (sym (ap (λ f. case_line f c.args.nurse.now) c.in-OtherInstance.is)) out.ensures.err

pub returns-in-HistoryWeek-clause-ok : goal.returns-in-HistoryWeek-clause-ok
returns-in-HistoryWeek-clause-ok g c =
    let out = c.write_at-in-HistoryWeek in
    subst (λ line. OnOk out.result (Writes g.Log.Write.contents c.args.log.now out.new.log line)) (sym (ap (λ f. case_line f c.args.nurse.now) c.in-HistoryWeek.is)) out.ensures.ok

pub returns-in-HistoryWeek-clause-err : goal.returns-in-HistoryWeek-clause-err
returns-in-HistoryWeek-clause-err g c =
    let out = c.write_at-in-HistoryWeek in
    subst (λ line. IfErr out.result (StopsIn g.Log.Write.contents c.args.log.now out.new.log line)) (sym (ap (λ f. case_line f c.args.nurse.now) c.in-HistoryWeek.is)) out.ensures.err
