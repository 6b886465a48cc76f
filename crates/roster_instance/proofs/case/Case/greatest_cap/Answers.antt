use Rattle.std.proofs.Common.{List, ◌∙◌, ◌≤◌, ap, map, subst, sym}
use Rattle.roster_instance.specs.declared.rules.Limits.{Limits}
use Rattle.roster_instance.specs.Limits.{most_small}
use Rattle.roster_instance.specs.Sizes.{greatest_of, cap}
use Rattle.roster_instance.proofs.SizeLemmas.{greatest_cap-small}
use Rattle.roster_instance.proofs.case.Case.greatest_cap.Goals as goal

pub returns-clause-small : goal.returns-clause-small
returns-clause-small c =
    let runs_are = c.greatest_cap.ensures ∙ ap (λ (runs : List Limits). greatest_of (map cap runs)) c.deref.ensures.value in
    subst (λ n. n ≤ most_small) (sym runs_are) (greatest_cap-small c.self.inside.scenario.runs.items c.self.invariant.small.runs)
