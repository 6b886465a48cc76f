use Rattle.std.proofs.Common.{◌<◌, ◌≤◌, ℕ}
use Rattle.roster_state.specs.CompletionLines.{most_leave}
use Rattle.roster_completion.specs.Lines.{IsLeastWay, way_cost}
use Rattle.roster_completion.proofs.ways.least_way.Given as goal

abbrev pub invariant-loop-index : goal.invariant-loop-index
invariant-loop-index l = record {
  least : (k : ℕ) → k < l.index → l.least ≤ way_cost l.ways.others l.next l.more k;
  met : IsLeastWay l.ways.others l.index l.next l.more l.least;
  within : l.least ≤ most_leave;
}
