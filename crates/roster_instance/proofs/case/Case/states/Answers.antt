use Rattle.std.proofs.Common.{◌∙◌, ◌<◌, ◌≤◌, ap, arith, length, subst, sym}
use Rattle.roster_instance.specs.Limits.{most_states}
use Rattle.roster_instance.specs.Meaning.{Meaning}
use Rattle.roster_instance.specs.Sizes.{state_count}
use Rattle.roster_instance.proofs.CaseLemmas.{states_alike}
use Rattle.roster_instance.proofs.case.Case.states.Goals as goal

few : (c : goal.After-state_count) → c.state_count.result ≤ most_states
few c =
    let i = c.self.inside in
    let within : c.args.nurse < length i.scenario.nurses = subst (λ (m : Meaning). c.args.nurse < length m.nurse_names) (sym c.self.view_is) c.requires in
    subst (λ n. n ≤ most_states) (states_alike i.scenario i.past i.weeks.items i.base i.keep c.args.nurse ∙ sym c.state_count.ensures) (c.self.invariant.few_states c.args.nurse within)

pub overflow_cast-result : goal.overflow_cast-result
overflow_cast-result c = let within = few c in omega (arith, within)

pub returns-clause-count : goal.returns-clause-count
returns-clause-count c =
    let i = c.self.inside in
    c.state_count.ensures ∙ sym (states_alike i.scenario i.past i.weeks.items i.base i.keep c.args.nurse) ∙ ap (λ m. state_count m c.args.nurse) c.self.view_is

pub returns-clause-within : goal.returns-clause-within
returns-clause-within c = few c
