use Rattle.std.proofs.Common.{◌≡◌, ◌∙◌, ◌+◌, ◌≤◌, None, Some, ap, arith, false, if◌then◌else◌, min, subst, sym, true}
use Rattle.roster_instance.specs.Meaning.{forbids, run_of_shift}
use Rattle.roster_instance.specs.Sizes.{cap}
use Rattle.roster_rules.specs.Prefix.{Summary}
use Rattle.roster_state.specs.Codes.{fits_sizes, sizes_of}
use Rattle.roster_state.specs.MostCosts.{most_of_transition}
use Rattle.roster_state.specs.Transition.{next_of, open_shift_run, transition_cost}
use Rattle.roster_state.proofs.RangeLemmas.{next_fits}
use Rattle.roster_state.proofs.WorkedLaw.{cost_within, cost_worked, left_small, state_worked}
use Rattle.roster_state.proofs.days.NurseDays.transition_worked.Goals as goal
use Rattle.roster_state.proofs.days.NurseDays.transition_worked.Goals.{After-shift_cost}

cost : (c : After-shift_cost) → c.args.worked.now.cost + c.shift_cost.result ≡ transition_cost c.args.self.now.case.now c.args.self.now.nurse c.args.day c.args.state (Some c.args.shift)
cost c = cost_worked c.args.self.now.case.now c.args.self.now.nurse c.args.day c.args.state c.args.worked.now c.requires.worked c.args.shift c.shift_cost.result c.shift_cost.ensures.cost

within : (c : After-shift_cost) → c.args.worked.now.cost + c.shift_cost.result ≤ most_of_transition
within c = omega (arith, cost c, cost_within c.args.self.now.case.now c.args.self.now.nurse c.args.day c.args.state c.args.worked.now c.requires.worked c.args.shift c.keeps_limits.ensures.small)

run : (c : After-shift_cost) → c.longer.result ≡ min (open_shift_run c.args.state c.args.shift.0 + 1) (cap (run_of_shift c.args.self.now.case.now c.args.shift.0))
run c = c.longer.ensures ∙ (λ i. min (c.open_shift_run-run.ensures.run i + 1) (cap (c.run_of_shift.ensures.limits i)))

pub shift_cost-requires-clause-small : goal.shift_cost-requires-clause-small
shift_cost-requires-clause-small c = left_small c.args.self.now.case.now c.args.self.now.nurse c.args.day c.args.state c.args.worked.now c.requires.worked c.args.shift c.keeps_limits.ensures.small

pub overflow_add-result : goal.overflow_add-result
overflow_add-result c = omega (arith, within (goal.at.overflow_add-result c).After-shift_cost)

pub returns-clause-next : goal.returns-clause-next
returns-clause-next c =
    let k = c.args.self.now.case.now in
    let n = c.args.self.now.nurse in
    let s = c.args.state in
    let u = Some c.args.shift in
    let of = (goal.at.returns-clause-next c).After-shift_cost in
    let next = state_worked k n c.args.day s c.args.worked.now c.requires.worked c.args.shift c.longer.result (run of) in
    let allowed : forbids k.successions s.last u ≡ false = sym (c.forbids_next.ensures ∙ ap (λ (s : Summary). forbids k.successions s.last u) c.state.view_is) ∙ c.if-forbids_next.false in
    (λ i. Some (next i, cost of i)) ∙ (λ i. if sym allowed i then None else Some (next_of k n c.args.day s u, transition_cost k n c.args.day s u))

pub returns-clause-next_fits : goal.returns-clause-next_fits
returns-clause-next_fits c =
    let k = c.args.self.now.case.now in
    let n = c.args.self.now.nurse in
    let of = (goal.at.returns-clause-next_fits c).After-shift_cost in
    let next = state_worked k n c.args.day c.args.state c.args.worked.now c.requires.worked c.args.shift c.longer.result (run of) in
    subst (λ (s : Summary). fits_sizes (sizes_of k n) s ≡ true) (sym next) (next_fits k n c.args.day c.args.state (Some c.args.shift) c.requires.shift)

pub returns-clause-within : goal.returns-clause-within
returns-clause-within c = within (goal.at.returns-clause-within c).After-shift_cost
