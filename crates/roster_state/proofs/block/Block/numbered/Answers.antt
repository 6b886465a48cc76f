use Rattle.std.proofs.Common.{◌<◌, arith, subst}
use Rattle.roster_state.specs.Codes.{Sizes}
use Rattle.roster_state.proofs.CodeLemmas.{block-code, block-fits, block-state, first-small}
use Rattle.roster_state.proofs.block.Block.numbered.Goals as goal

pub shift_numbered-requires : goal.shift_numbered-requires
shift_numbered-requires c = first-small _ _ c.args.number c.ranges-2.view_is c.ranges-2.invariant c.requires

pub returns-clause-states : goal.returns-clause-states
returns-clause-states c a within = block-state _ _ c.args.number c.ranges-2.view_is c.ranges-2.invariant c.requires _ c.shift_numbered.ensures a within

pub returns-clause-fit : goal.returns-clause-fit
returns-clause-fit c a within = block-fits _ _ c.args.number c.ranges-2.view_is c.ranges-2.invariant c.requires _ c.shift_numbered.ensures a within

pub returns-clause-fits : goal.returns-clause-fits
returns-clause-fits c =
    let some = subst (λ (z : Sizes). 0 < z.assignments) c.ranges-2.view_is c.ranges-2.invariant.assignments.some in
    block-fits _ _ c.args.number c.ranges-2.view_is c.ranges-2.invariant c.requires _ c.shift_numbered.ensures 0 some

pub returns-clause-first : goal.returns-clause-first
returns-clause-first c =
    let some = subst (λ (z : Sizes). 0 < z.assignments) c.ranges-2.view_is c.ranges-2.invariant.assignments.some in
    let is = block-code _ _ c.args.number c.ranges-2.view_is c.ranges-2.invariant c.requires _ c.shift_numbered.ensures 0 some in
    omega (arith, is)
