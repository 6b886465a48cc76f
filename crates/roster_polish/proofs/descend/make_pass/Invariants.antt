use Rattle.std.proofs.Common.{◌≡◌, ◌+◌, ◌≤◌, true}
use Rattle.roster_laws.specs.FrozenDays.{FrozenDaysStay}
use Rattle.roster_offers.specs.Workspaces.{fits_space}
use Rattle.roster_row.specs.Recalled.{RecallsSearches}
use Rattle.roster_polish.specs.Settled.{Spends}
use Rattle.roster_polish.proofs.Passes.{PassTo}
use Rattle.roster_polish.proofs.descend.make_pass.Given as goal

abbrev pub invariant-loop-nurse : goal.invariant-loop-nurse
invariant-loop-nurse g l = record {
  case : l.held.case ≡ l.fn.held.case;
  pass : PassTo l.fn.held.case l.first.from l.fn.held.roster l.held.roster l.changed l.first.nurse l.nurse;
  frozen : FrozenDaysStay l.fn.held.case l.first.from l.fn.held.roster l.held.roster;
  few : l.fn.searches.left + l.first.nurse ≤ l.searches.left + l.nurse;
  ends : l.searches.deadline.ends ≡ l.fn.searches.deadline.ends;
  spends : Spends l.fn.held.case l.fn.meter l.fn.searches.left l.meter l.searches.left;
  fits : fits_space l.fn.held.case l.workspace ≡ true;
  recalls : RecallsSearches l.fn.held.case l.last;
}
