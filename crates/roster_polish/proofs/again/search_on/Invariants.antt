use Rattle.std.proofs.Common.{◌≤◌, true}
use Rattle.roster_rules.specs.Penalties.{penalty}
use Rattle.roster_polish.specs.Tries.{GoesOnSettled}
use Rattle.roster_polish.proofs.again.search_on.Given as goal

abbrev pub invariant-loop-turn : goal.invariant-loop-turn
invariant-loop-turn g l = record {
  goes_on : GoesOnSettled l.fn.held.case l.from l.fn.held.roster l.held l.fn.searches l.searches l.fn.space l.space l.fn.meter l.meter true;
  no_dearer : penalty l.fn.held.case l.held.roster ≤ penalty l.fn.held.case l.fn.held.roster;
}
