use Rattle.std.proofs.Common.{◌≡◌}
use Rattle.std.specs.Prelude.{IfNone, IfSome}
use Rattle.roster_bound.specs.declared.nodes.Children.{Children}
use Rattle.roster_bound.specs.Branching.{AreChildrenOf}
use Rattle.roster_prices.specs.Workspaces.{FitsBound}
use Rattle.roster_timer.specs.Deadlines.{IsLater, time_of}
use Rattle.roster_bound.proofs.choosing.choose.Given as goal

abbrev pub invariant-loop-candidate : goal.invariant-loop-candidate
invariant-loop-candidate g l = record {
  two : IfSome l.chosen (λ (two : Children). AreChildrenOf l.node two.with two.without);
  none_before : IfNone l.chosen (l.candidate-index ≡ 0);
  none_yet : IfNone l.chosen (l.most ≡ 0);
  later : IsLater (time_of l.fn.deadline) (time_of l.deadline);
  fits : FitsBound l.case l.bounds;
}
