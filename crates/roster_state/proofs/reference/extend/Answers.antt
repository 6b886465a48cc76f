use Rattle.std.proofs.Common.{◌≡◌, ◌+◌, ◌++◌, ◌∷◌, [], ℕ, Option, length, refl}
use Rattle.roster_instance.specs.Days.{Days}
use Rattle.roster_instance.specs.Meaning.{forbids}
use Rattle.roster_rules.specs.Prefix.{Summary, due, summary_of}
use Rattle.roster_state.specs.Transition.{next_of, transition_cost, transition_of}
use Rattle.roster_state.proofs.BlockLaw.{where_some}
use Rattle.roster_state.proofs.SumLaw.{transition_leads, transition_owes}
use Rattle.roster_state.proofs.reference.extend.Goals as goal

abbrev transition : (c : goal.After-transition) → Option (Summary × ℕ)
transition c = c.transition.result

is : (c : goal.After-transition) → transition c ≡ transition_of c.args.case.now c.args.nurse c.args.day c.args.state c.args.shift
is c = c.transition.ensures.next

pub returns-clause-summary : goal.returns-clause-summary
returns-clause-summary c =
    let k = c.args.case.now in
    let n = c.args.nurse in
    where_some (forbids k.successions c.args.state.last c.args.shift) (next_of k n c.args.day c.args.state c.args.shift, transition_cost k n c.args.day c.args.state c.args.shift) (transition c) (is c)
    (λ transition. (days : Days) → length days ≡ c.args.day → c.args.state ≡ summary_of k n days → transition.0 ≡ summary_of k n (days ++ c.args.shift ∷ []))
    (λ days long at. transition_leads k n c.args.state days at c.args.day c.args.shift _ long refl)

pub returns-clause-owed : goal.returns-clause-owed
returns-clause-owed c =
    let k = c.args.case.now in
    let n = c.args.nurse in
    where_some (forbids k.successions c.args.state.last c.args.shift) (next_of k n c.args.day c.args.state c.args.shift, transition_cost k n c.args.day c.args.state c.args.shift) (transition c) (is c)
    (λ transition. (days : Days) → length days ≡ c.args.day → c.args.state ≡ summary_of k n days → due k n (days ++ c.args.shift ∷ []) ≡ due k n days + transition.1)
    (λ days long at. transition_owes k n c.args.state days at c.args.day c.args.shift _ long refl)
