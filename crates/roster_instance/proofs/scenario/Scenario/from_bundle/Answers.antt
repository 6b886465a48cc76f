use Rattle.roster_instance.proofs.Sections.{IsFirst-after, IsFirst-front, IsFirst-through, both_none}
use Rattle.roster_instance.proofs.scenario.Scenario.from_bundle.Goals as goal

pub returns-in_err-shifts-clause-first : goal.returns-in_err-shifts-clause-first
returns-in_err-shifts-clause-first c =
    let f = c.in_err-shifts.field-0.0 in
    let none = both_none _ _ c.in_ok-check_count.ensures.none c.in_ok-skills.ensures.none in
    IsFirst-through _ f _ c.from_residual-in_err-shifts.ensures.1
    (IsFirst-front _ _ f (IsFirst-after _ _ f none c.in_err-shifts.ensures.first))

pub returns-in_err-staff-clause-first : goal.returns-in_err-staff-clause-first
returns-in_err-staff-clause-first c =
    let f = c.in_err-staff.field-0.0 in
    let none = both_none _ _ (both_none _ _ c.in_ok-check_count.ensures.none c.in_ok-skills.ensures.none) c.in_ok-shifts.ensures.none in
    IsFirst-through _ f _ c.from_residual-in_err-staff.ensures.1
    (IsFirst-after _ _ f none c.in_err-staff.ensures.first)
