use Rattle.std.proofs.Common.{◌≡◌, ◌+◌, ◌-◌, ◌*◌, ◌≤◌, None, true}
use Rattle.roster_instance.specs.Meaning.{nurse_count}
use Rattle.roster_rules.specs.AllowedRows.{best_row}
use Rattle.roster_rules.specs.Improver.{run}
use Rattle.roster_offers.specs.Workspaces.{fits_space}
use Rattle.roster_row.specs.Recalled.{RecallsSearches}
use Rattle.roster_polish.specs.Polished.{first_run, first_searches, descent_rounds, rounds_made}
use Rattle.roster_polish.specs.Settled.{Spends}
use Rattle.roster_polish.proofs.descend.descend_first.Given as goal

abbrev pub invariant-loop-rounds_before : goal.invariant-loop-rounds_before
invariant-loop-rounds_before g l = record {
  case : l.held.case ≡ l.fn.held.case;
  run_is : first_run l.fn.held.case l.fn.from l.fn.held.roster ≡ run l.fn.held.case (best_row l.fn.held.case l.fn.from) (descent_rounds - l.rounds_before) l.held.roster;
  rounds : rounds_made l.fn.held.case l.fn.from descent_rounds l.fn.held.roster ≡ l.rounds_before + rounds_made l.fn.held.case l.fn.from (descent_rounds - l.rounds_before) l.held.roster;
  few : first_searches l.fn.held.case ≤ l.searches.left + l.rounds_before * nurse_count l.fn.held.case;
  left : (descent_rounds - l.rounds_before) * nurse_count l.fn.held.case ≤ l.searches.left;
  ends : l.searches.deadline.ends ≡ None;
  spends : Spends l.fn.held.case l.fn.meter (first_searches l.fn.held.case) l.meter l.searches.left;
  fits : fits_space l.fn.held.case l.workspace ≡ true;
  recalls : RecallsSearches l.fn.held.case l.last;
}
