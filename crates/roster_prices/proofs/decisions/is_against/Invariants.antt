use Rattle.std.proofs.Common.{◌≡◌, false, take}
use Rattle.roster_prices.specs.Nodes.{is_against}
use Rattle.roster_prices.proofs.decisions.is_against.Given as goal

-- none of the decisions before
abbrev pub invariant-loop-decision : goal.invariant-loop-decision
invariant-loop-decision l = record {
  none : is_against (take l.decision-index l.node) l.nurse l.day l.choice ≡ false;
}
