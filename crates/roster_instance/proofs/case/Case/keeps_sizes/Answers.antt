use Rattle.std.proofs.Common.{◌+◌, ◌*◌, ◌≤◌, subst}
use Rattle.roster_instance.specs.CaseParts.{HasFewStates}
use Rattle.roster_instance.specs.Limits.{most_shifts, most_skills}
use Rattle.roster_instance.specs.Meaning.{Meaning}
use Rattle.roster_instance.specs.Sizes.{choice_count}
use Rattle.roster_instance.proofs.SizeLemmas.{few_choices}
use Rattle.roster_instance.proofs.case.Case.keeps_sizes.Goals as goal

pub returns-clause-states : goal.returns-clause-states
returns-clause-states c = subst HasFewStates c.self.view_is c.self.invariant.few_states

pub returns-clause-choices : goal.returns-clause-choices
returns-clause-choices c = λ n.
    let scenario = c.self.inside.scenario in
    subst (λ (m : Meaning). choice_count m n ≤ 1 + most_shifts * most_skills) c.self.view_is (few_choices _ scenario.counts.few_shifts scenario.few_skills n)
