use Rattle.std.proofs.Common.{◌∙◌, ap, subst, sym}
use Rattle.roster_slots.specs.Tables.{slot_prices}
use Rattle.roster_prices.specs.Nodes.{IsLowerBoundIn, bound_in}
use Rattle.roster_bound.specs.Rounds.{bound_of_sum, sum_in}
use Rattle.roster_bound.proofs.NodeBounds.{none_below_in}
use Rattle.roster_bound.proofs.bounds.lower_bound_in.Goals as goal

pub returns-clause-bound : goal.returns-clause-bound
unfolding bound_in sum_in
returns-clause-bound g c = c.bound_of_sum.ensures ∙ ap (bound_of_sum c.args.terms.now.case.now c.args.terms.now.scale) c.sum_in-sum.ensures.sum

pub returns-clause-below : goal.returns-clause-below
returns-clause-below g c =
    let t = c.args.terms.now in
    subst (IsLowerBoundIn t.case.now t.from t.given.now c.args.node.now) (sym (returns-clause-bound g c)) (none_below_in t.case.now t.scale (slot_prices t.scale t.dual_prices.now) c.args.node.now t.from t.given.now t.in_scale.some (c.keep_most.ensures t.scale))
