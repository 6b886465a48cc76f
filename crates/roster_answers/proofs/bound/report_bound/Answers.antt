use Rattle.std.proofs.Common.{subst}
use Rattle.roster_instance.specs.Meaning.{Meaning}
use Rattle.roster_answers.specs.Answer.{IsBoundWithin, Output, Reports, outcome_of}
use Rattle.roster_answers.proofs.bound.report_bound.Goals as goal

pub returns : goal.returns
returns g c =
    let output : Output g.row.Out.Denot = record { contents = g.Out.Write.contents; before = c.args.output.now; after = c.report_raised_bound.new.output } in
    let log : Output g.row.Log.Denot = record { contents = g.Log.Write.contents; before = c.args.log.now; after = c.report_raised_bound.new.log } in
    let i = c.args.instance in
    subst (λ (m : Meaning). Reports output log (IsBoundWithin c.args.task.effort c.args.task.deadline.ends c.args.task.from m i.roster) m (outcome_of c.report_raised_bound.result)) c.new-meter.ensures.same c.report_raised_bound.ensures.reports
