use Rattle.std.proofs.Common.{subst}
use Rattle.roster_instance.specs.Meaning.{Meaning}
use Rattle.roster_answers.specs.Answer.{EndsBy, IsWhoReport, Output, names_in, outcome_of}
use Rattle.roster_answers.proofs.who.report_who.Goals as goal

pub returns : goal.returns
returns g c =
    let output : Output g.row.Out.Denot = record { contents = g.Out.Write.contents; before = c.args.output.now; after = c.report_takers.new.output } in
    let i = c.args.instance in
    subst (λ (m : Meaning). EndsBy output (IsWhoReport (names_in c.args.asking) c.args.asking.from c.args.json m i.roster) m (outcome_of c.report_takers.result)) c.new-meter.ensures.same c.report_takers.ensures
