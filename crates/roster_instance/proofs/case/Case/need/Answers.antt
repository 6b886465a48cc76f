use Rattle.std.proofs.Common.{◌≡◌, rules, subst, sym}
use Rattle.roster_instance.specs.CaseParts.{case_with}
use Rattle.roster_instance.specs.Meaning.{need}
use Rattle.roster_instance.specs.Small.{IsSmallNeed}
use Rattle.roster_instance.proofs.case.Case.need.Goals as goal

pub returns-in-Some-clause-small : goal.returns-in-Some-clause-small
returns-in-Some-clause-small c =
    let i = c.self.inside in
    let is : c.need.result ≡ need (case_with i.scenario i.past i.weeks.items i.base i.keep) c.args.day c.args.shift.0 c.args.skill.0 = search rules in
    subst IsSmallNeed (sym is) (c.self.invariant.small.needs c.args.day c.args.shift.0 c.args.skill.0)
