use Rattle.std.proofs.Common.{◌∙◌, ap, subst, sym}
use Rattle.roster_slots.specs.Tables.{slot_prices}
use Rattle.roster_prices.specs.LowerBounds.{IsLowerBound}
use Rattle.roster_bound.specs.Rounds.{bound_of_sum}
use Rattle.roster_bound.proofs.Duality.{no_roster_below}
use Rattle.roster_bound.proofs.RoundLaws.{bound_of_round, sum_of_root}
use Rattle.roster_bound.proofs.rounds.make_round.Goals as goal

pub returns-clause-sum : goal.returns-clause-sum
returns-clause-sum g c =
    let b = c.args.base.now in
    c.sum_in-sum.ensures.sum ∙ sum_of_root b.case.now b.from b.given.now b.scale (slot_prices b.scale c.args.workspace.now.dual_prices)

pub returns-clause-bound : goal.returns-clause-bound
returns-clause-bound g c =
    let b = c.args.base.now in
    c.bound_of_sum.ensures ∙ ap (bound_of_sum b.case.now b.scale) (returns-clause-sum g c) ∙ bound_of_round b.case.now b.from b.given.now b.scale (slot_prices b.scale c.args.workspace.now.dual_prices)

pub returns-clause-below : goal.returns-clause-below
returns-clause-below g c =
    let b = c.args.base.now in
    subst (IsLowerBound b.case.now b.from b.given.now) (sym (returns-clause-bound g c)) (no_roster_below b.case.now b.from b.given.now b.scale (slot_prices b.scale c.args.workspace.now.dual_prices) b.in_scale.some (c.keep_most.ensures b.scale))
