-- The steps of the nurses so far are made, and the lines of those that changed the roster are sent.
use Rattle.std.proofs.Common.{◌≡◌, ◌+◌, ◌*◌, ◌≤◌}
use Rattle.roster_rules.specs.AllowedRows.{best_row}
use Rattle.roster_laws.specs.Greatest.{greatest_extension_count}
use Rattle.roster_laws.specs.FrozenDays.{FrozenDaysStay}
use Rattle.roster_offers.specs.Workspaces.{SameCapacity}
use Rattle.roster_rounds.proofs.OneRound.{SoFar}
use Rattle.roster_rounds.proofs.rounds.make_round.Given as goal

abbrev pub invariant-loop-nurse : goal.invariant-loop-nurse
invariant-loop-nurse g l = record {
  case_is : l.held.case ≡ l.fn.held.case;
  so_far : SoFar g.W.Write.contents l.fn.held.case (best_row l.fn.held.case l.plan.from) l.plan.round l.fn.held.roster l.held.roster l.fn.log l.log l.fn.sent l.sent l.changes l.nurse;
  counted : l.meter ≤ l.fn.meter + l.nurse * greatest_extension_count l.fn.held.case;
  frozen : FrozenDaysStay l.fn.held.case l.plan.from l.fn.held.roster l.held.roster;
  same_capacity : SameCapacity (g.S.Steps.space l.fn.steps) (g.S.Steps.space l.steps);
  same_last : g.S.Steps.known_capacity l.steps ≡ g.S.Steps.known_capacity l.fn.steps;
  ready : g.S.Steps.IsReady l.fn.held.case l.steps;
}
