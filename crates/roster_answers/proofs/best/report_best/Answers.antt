use Rattle.std.proofs.Common.{subst}
use Rattle.roster_instance.specs.Meaning.{Meaning}
use Rattle.roster_answers.specs.Answer.{Ends, LeavesLog, Output, best_report, outcome_of}
use Rattle.roster_answers.proofs.best.report_best.Goals as goal

pub returns-clause-ends : goal.returns-clause-ends
returns-clause-ends g c =
    let output : Output g.row.Out.Denot = record { contents = g.Out.Write.contents; before = c.args.output.now; after = c.report_best_row.new.output } in
    let i = c.args.instance in
    subst (λ (m : Meaning). Ends output (best_report c.args.name.now c.args.from m i.roster) m (outcome_of c.report_best_row.result)) c.new-meter.ensures.same c.report_best_row.ensures.ends

pub returns-clause-logged : goal.returns-clause-logged
returns-clause-logged g c =
    let log : Output g.row.Log.Denot = record { contents = g.Log.Write.contents; before = c.args.log.now; after = c.report_best_row.new.log } in
    let i = c.args.instance in
    subst (λ (m : Meaning). LeavesLog log (best_report c.args.name.now c.args.from m i.roster).log (outcome_of c.report_best_row.result)) c.new-meter.ensures.same c.report_best_row.ensures.logged
