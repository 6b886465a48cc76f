use Rattle.std.proofs.Common.{◌≡◌, ◌∙◌, ◌+◌, Some, None, ap, ap₂, false, if◌then◌else◌, is_some, nat_le, subst, sym, true}
use Rattle.roster_instance.specs.declared.rules.ContractRules.{ContractRules}
use Rattle.roster_instance.specs.Meaning.{forbids}
use Rattle.roster_rules.specs.Prefix.{Summary}
use Rattle.roster_rules.specs.Weights.{assignment_weight}
use Rattle.roster_state.specs.Codes.{fits_sizes, sizes_of}
use Rattle.roster_state.specs.Transition.{next_of, transition_cost}
use Rattle.roster_state.proofs.BlockLaw.{cost_at, more_above}
use Rattle.roster_state.proofs.RangeLemmas.{next_fits}
use Rattle.roster_state.proofs.transition.transition.Goals as goal

pub returns-clause-next : goal.returns-clause-next
returns-clause-next c =
    let k = c.args.case.now in
    let n = c.args.nurse in
    let d = c.args.day in
    let s = c.args.state in
    let shift = c.args.shift in
    let more = c.total_more.ensures.cost
    ∙ ap (λ (r : ContractRules). if is_some shift then (if nat_le r.total.greatest s.assignments then assignment_weight else 0) else 0) c.requires.rules
    ∙ more_above k n d s shift s.assignments in
    let cost : c.cost_apart.result + c.total_more.result ≡ transition_cost k n d s shift = ap₂ (λ a b. a + b) c.cost_apart.ensures.cost more ∙ cost_at k n d s shift s.assignments in
    let allowed : forbids k.successions s.last shift ≡ false = sym (c.forbids_next.ensures ∙ ap (λ (s : Summary). forbids k.successions s.last shift) c.state.view_is) ∙ c.if-forbids_next.false in
    (λ i. Some (c.next_of.ensures i, cost i)) ∙ (λ i. if sym allowed i then None else Some (next_of k n d s shift, transition_cost k n d s shift))

pub returns-clause-next_fits : goal.returns-clause-next_fits
returns-clause-next_fits c =
    let k = c.args.case.now in
    let n = c.args.nurse in
    subst (λ (s : Summary). fits_sizes (sizes_of k n) s ≡ true) (sym c.next_of.ensures) (next_fits k n c.args.day c.args.state c.args.shift c.requires.shift)
