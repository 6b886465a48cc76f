use Rattle.std.proofs.Common.{◌∙◌, subst, sym}
use Rattle.roster_instance.specs.Checking.{IsFirst}
use Rattle.roster_instance.specs.Refusals.{unknown_fault}
use Rattle.roster_instance.proofs.Sections.{IsFirst-through, each-alike}
use Rattle.roster_instance.proofs.scenario.forbidden_of.Goals as goal

pub returns-in_err-add_all-clause-first : goal.returns-in_err-add_all-clause-first
returns-in_err-add_all-clause-first c =
    let f = c.in_err-add_all.field-0.0 in
    let faults = unknown_fault c.args.source.now c.args.shifts.now in
    IsFirst-through c.from_residual.result f _ c.from_residual.ensures.1
    (subst (λ fs. IsFirst fs f) (each-alike faults c.args.tokens.now) c.in_err-add_all.ensures.first)

pub returns-clause-none : goal.returns-clause-none
returns-clause-none c = sym (each-alike (unknown_fault c.args.source.now c.args.shifts.now) c.args.tokens.now) ∙ c.in_ok-add_all.ensures.none
