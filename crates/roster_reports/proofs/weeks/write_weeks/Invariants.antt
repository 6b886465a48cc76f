-- The weeks before this one are sent.
use Rattle.roster_text.specs.Io.{Sends}
use Rattle.roster_reports.proofs.WeekLemmas.{front_text}
use Rattle.roster_reports.proofs.weeks.write_weeks.Given as goal

abbrev pub invariant-loop-week : goal.invariant-loop-week
invariant-loop-week g l = Sends g.W.Write.contents l.initial.output l.output 0 l.sent (front_text l.case l.roster l.week)
