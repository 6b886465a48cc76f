-- The rounds so far are made, and the lines so far are sent.
use Rattle.std.proofs.Common.{◌≡◌, ◌+◌, ◌≤◌}
use Rattle.roster_rules.specs.AllowedRows.{best_row}
use Rattle.roster_laws.specs.FrozenDays.{FrozenDaysStay}
use Rattle.roster_offers.specs.Workspaces.{SameCapacity}
use Rattle.roster_laws.specs.Greatest.{extensions_in}
use Rattle.roster_rounds.proofs.RunSteps.{Going}
use Rattle.roster_rounds.proofs.rounds.make_rounds.Given as goal

abbrev pub invariant-loop-rounds_before : goal.invariant-loop-rounds_before
invariant-loop-rounds_before g l = record {
  case_is : l.held.case ≡ l.fn.held.case;
  going : Going g.W.Write.contents l.fn.held.case (best_row l.fn.held.case l.from) l.rounds l.fn.held.roster l.held.roster l.fn.log l.log l.sent l.changes l.rounds_before;
  counted : l.meter ≤ l.fn.meter + extensions_in l.fn.held.case l.rounds_before;
  frozen : FrozenDaysStay l.fn.held.case l.from l.fn.held.roster l.held.roster;
  same_capacity : SameCapacity (g.S.Steps.space l.fn.steps) (g.S.Steps.space l.steps);
  same_last : g.S.Steps.known_capacity l.steps ≡ g.S.Steps.known_capacity l.fn.steps;
  ready : g.S.Steps.IsReady l.fn.held.case l.steps;
}
