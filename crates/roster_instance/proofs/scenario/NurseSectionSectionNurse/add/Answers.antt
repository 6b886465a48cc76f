use Rattle.std.proofs.Common.{rules}
use Rattle.roster_bundle.specs.declared.bundle.Nurse.{Nurse}
use Rattle.roster_instance.proofs.Sections.{built_more, names_more}
use Rattle.roster_instance.proofs.scenario.NurseSectionSectionNurse.add.Goals as goal

pub returns-clause-built : goal.returns-clause-built
returns-clause-built c = λ earlier b. (
  names_more _ (λ (e : Nurse). e.name) earlier c.args.nurse.now _ _ b.0 c.in_ok-add_token.ensures.added,
  built_more _ earlier c.args.nurse.now _ _ _ b.1 c.in_ok-push.ensures.items (search rules),
)
