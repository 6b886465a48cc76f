-- The rounds so far are made, and the lines so far are sent. Before the first round the dual prices are those
-- of the first.
use Rattle.std.proofs.Common.{◌≡◌, ◌+◌, ◌*◌, ◌≤◌}
use Rattle.roster_instance.specs.Meaning.{day_count, nurse_count}
use Rattle.roster_rules.specs.Penalties.{penalty}
use Rattle.roster_laws.specs.Greatest.{extensions_in}
use Rattle.roster_slots.specs.Tables.{slot_prices}
use Rattle.roster_prices.specs.Workspaces.{FitsBound}
use Rattle.roster_slots.specs.Slots.{SameDualPrices}
use Rattle.roster_prices.specs.LowerBounds.{IsLowerBound, first_dual_prices}
use Rattle.roster_bound.proofs.RoundLaws.{GoingBySums}
use Rattle.roster_bound.proofs.rounds.make_rounds.Given as goal

abbrev pub invariant-loop-rounds_before : goal.invariant-loop-rounds_before
invariant-loop-rounds_before g l = record {
  so_far : GoingBySums g.W.Write.contents l.top.base.now.case.now l.top.base.now.from l.top.base.now.given.now l.top.base.now.scale l.fn.log l.log l.rounds_before l.gains.top l.gains.barren l.sent l.best;
  first : l.rounds_before ≡ 0 → SameDualPrices l.top.base.now.case.now (slot_prices l.top.base.now.scale l.workspace.dual_prices) (first_dual_prices l.top.base.now.case.now l.top.base.now.scale);
  below : IsLowerBound l.top.base.now.case.now l.top.base.now.from l.top.base.now.given.now l.best;
  within : l.best ≤ penalty l.top.base.now.case.now l.top.base.now.given.now;
  made : l.fn.meter + l.rounds_before * (nurse_count l.top.base.now.case.now * day_count l.top.base.now.case.now) ≤ l.meter;
  ends : l.deadline.ends ≡ l.fn.deadline.ends;
  counted : l.meter ≤ l.fn.meter + extensions_in l.top.base.now.case.now l.rounds_before;
  fits : FitsBound l.top.base.now.case.now l.workspace;
}
