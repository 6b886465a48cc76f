-- The kicks so far are made, and the lines so far are sent.
use Rattle.std.proofs.Common.{◌≡◌, ◌+◌, ◌≤◌}
use Rattle.roster_laws.specs.FrozenDays.{FrozenDaysStay}
use Rattle.roster_polish.specs.Polished.{FitsPolish, descent_searches}
use Rattle.roster_polish.specs.Settled.{extensions_of}
use Rattle.roster_polish.specs.Shown.{SawOnlyReported}
use Rattle.roster_polish.proofs.KickLogs.{Underway}
use Rattle.roster_polish.proofs.run.polish_found.Given as goal

abbrev pub invariant-loop-kicks_before : goal.invariant-loop-kicks_before
invariant-loop-kicks_before g l = record {
  case : l.held.case ≡ l.fn.held.case;
  kept : l.space.kept ≡ l.held.roster;
  frozen : FrozenDaysStay l.fn.held.case l.course.from l.fn.held.roster l.held.roster;
  going : Underway g.W.Write.contents l.fn.held.case l.course.from l.fn.held.roster l.fn.reporting.start l.course.kicks_alone l.fn.log l.log l.kicks_before l.sent l.settled l.is_reported l.held.roster;
  saved : SawOnlyReported g.W.Write.contents g.S.Saves.Saw l.fn.held.case l.course.from l.fn.held.roster l.fn.reporting.start l.fn.log l.fn.reporting.saver l.reporting.saver;
  counted : l.meter + extensions_of l.fn.held.case l.kicking.searches.left ≤ l.fn.meter + extensions_of l.fn.held.case (l.course.searches + descent_searches l.fn.held.case l.course.from l.fn.held.roster);
  fits : FitsPolish l.fn.held.case l.space;
}
