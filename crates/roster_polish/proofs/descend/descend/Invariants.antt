use Rattle.std.proofs.Common.{◌≡◌, ◌+◌, ◌≤◌, ◌⊎◌, true}
use Rattle.roster_rules.specs.Penalties.{penalty}
use Rattle.roster_laws.specs.FrozenDays.{FrozenDaysStay}
use Rattle.roster_offers.specs.Workspaces.{fits_space}
use Rattle.roster_row.specs.Recalled.{RecallsSearches}
use Rattle.roster_polish.specs.Settled.{Spends}
use Rattle.roster_polish.proofs.Passes.{StepsTo}
use Rattle.roster_polish.proofs.descend.descend.Given as goal

abbrev pub invariant-loop-pass : goal.invariant-loop-pass
invariant-loop-pass g l = record {
  case : l.held.case ≡ l.fn.held.case;
  steps : StepsTo l.fn.held.case l.aim.from l.fn.held.roster l.held.roster;
  frozen : FrozenDaysStay l.fn.held.case l.aim.from l.fn.held.roster l.held.roster;
  first : (l.pass ≡ 0) ⊎ (l.first ≡ 0);
  fallen : penalty l.fn.held.case l.held.roster + l.pass ≤ penalty l.fn.held.case l.fn.held.roster + 1;
  no_dearer : penalty l.fn.held.case l.held.roster ≤ penalty l.fn.held.case l.fn.held.roster;
  spends : Spends l.fn.held.case l.fn.meter l.fn.searches.left l.meter l.searches.left;
  fits : fits_space l.fn.held.case l.workspace ≡ true;
  recalls : RecallsSearches l.fn.held.case l.last;
}
