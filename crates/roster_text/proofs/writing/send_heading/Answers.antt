use Rattle.std.proofs.Common.{◌∙◌, ap, decimal}
use Rattle.roster_text.proofs.Lines.{heading_is}
use Rattle.roster_text.proofs.writing.send_heading.Goals as goal

pub returns-clause-ok : goal.returns-clause-ok
returns-clause-ok g c =
    rw (heading_is (g.S.SolutionView.shown c.args.view.now) _ _ _ (ap decimal (c.from.ensures ∙ c.week.ensures)) c.name.ensures (ap decimal c.count_assignments.ensures)) c.send_pieces.ensures.ok

pub returns-clause-err : goal.returns-clause-err
returns-clause-err g c =
    rw (heading_is (g.S.SolutionView.shown c.args.view.now) _ _ _ (ap decimal (c.from.ensures ∙ c.week.ensures)) c.name.ensures (ap decimal c.count_assignments.ensures)) c.send_pieces.ensures.err
