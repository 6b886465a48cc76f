use Rattle.std.proofs.Common.{◌∙◌}
use Rattle.roster_bundle.specs.declared.bundle.Nurse.{Nurse}
use Rattle.roster_reports.proofs.NameLemmas.{name_found}
use Rattle.roster_reports.proofs.names.listed_nurse.Goals as goal

pub returns-in-Some : goal.returns-in-Some
returns-in-Some c =
    c.text.ensures
    ∙ name_found c.args.source.now (λ (line : Nurse). line.name) c.args.bundle.now.scenario.nurses.items c.as_slice.result.now c.args.nurse c.in-Some.line.now
    c.as_slice.ensures c.in-Some.ensures.lookup.0 c.in-Some.ensures.lookup.1
