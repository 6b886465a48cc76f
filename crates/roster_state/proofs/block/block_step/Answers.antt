use Rattle.std.proofs.Common.{◌≡◌, ◌∙◌, ◌+◌, ap, false, if◌then◌else◌, is_some, sym}
use Rattle.roster_instance.specs.declared.rules.ContractRules.{ContractRules}
use Rattle.roster_instance.specs.Meaning.{forbids}
use Rattle.roster_rules.specs.Prefix.{Summary}
use Rattle.roster_instance.specs.Sizes.{cap}
use Rattle.roster_state.specs.declared.block.Block.TheInside.{Inside}
use Rattle.roster_state.specs.Transition.{next_of, transition_of, with_assignments}
use Rattle.roster_state.proofs.BlockLaw.{block_fits, dearer, places_step}
use Rattle.roster_state.proofs.block.block_step.Goals as goal

next : (c : goal.After-dearer_from) → c.of.result ≡ with_assignments (next_of c.args.case.now c.args.nurse c.args.day c.block.inside.state c.args.shift) 0
next c = c.of.ensures ∙ ap (λ (s : Summary). with_assignments s 0) c.next_of.ensures

from : (c : goal.After-dearer_from) → c.dearer_from.result ≡ dearer c.args.case.now c.args.nurse c.args.day c.args.block c.args.shift
from c = c.dearer_from.ensures ∙ ap (λ (r : ContractRules). if is_some c.args.shift then r.total.greatest else cap r.total + 1) c.requires.rules

allowed : (c : goal.After-dearer_from) → forbids c.args.case.now.successions c.block.inside.state.last c.args.shift ≡ false
allowed c = sym (c.forbids_next.ensures ∙ ap (λ (b : Inside). forbids c.args.case.now.successions b.state.last c.args.shift) c.block-inside.view_is) ∙ c.if-forbids_next.false

pub returns-clause-transitions : goal.returns-clause-transitions
returns-clause-transitions c a inside =
    places_step c.args.case.now c.args.nurse c.args.day c.block.inside.state c.args.shift _ _ _ _ (next c) c.is_some.ensures c.cost_apart.ensures.cost (from c) (allowed c) a inside
    ∙ ap (λ (s : Summary). transition_of c.args.case.now c.args.nurse c.args.day (with_assignments s a) c.args.shift) c.block.view_is

pub returns-clause-next_fits : goal.returns-clause-next_fits
returns-clause-next_fits c =
    block_fits c.args.case.now c.args.nurse c.args.day c.block.inside.state c.args.shift _ _ _ _ (next c) c.is_some.ensures c.cost_apart.ensures.cost (from c) c.requires.shift
