use Rattle.std.proofs.Common.{◌∙◌, ap, subst, sym, List, []}
use Rattle.std.specs.List.{enumerate_from, flat_map}
use Rattle.roster_bundle.specs.declared.bundle.Nurse.{Nurse}
use Rattle.roster_instance.specs.declared.fault.CaseFault.{CaseFault}
use Rattle.roster_instance.specs.CaseParts.{case_of, known_of}
use Rattle.roster_instance.specs.Checking.{IsFirst}
use Rattle.roster_instance.specs.Refusals.{state_fault, week_faults}
use Rattle.roster_instance.proofs.Sections.{IsFirst-after, IsFirst-front, IsFirst-through, both_none}
use Rattle.roster_instance.proofs.case.read_history_and_weeks.Goals as goal

pub returns-in_err-past-clause-first : goal.returns-in_err-past-clause-first
returns-in_err-past-clause-first c =
    let f = c.in_err-past.field-0.0 in
    IsFirst-through c.from_residual.result f _ c.from_residual.ensures.1 (IsFirst-front _ _ f (IsFirst-front _ _ f c.in_err-past.ensures.first))

pub returns-in_err-weeks-clause-first : goal.returns-in_err-weeks-clause-first
returns-in_err-weeks-clause-first c =
    let s = c.args.scenario.now in
    let f = c.in_err-weeks.field-0.0 in
    let faults = flat_map (week_faults (known_of c.args.source.now s)) in
    IsFirst-through _ f _ c.from_residual-in_err-weeks.ensures.1
    (IsFirst-front _ _ f (IsFirst-after _ _ f c.in_ok-past.ensures.none (subst (λ ws. IsFirst (faults ws) f) c.as_slice.ensures c.in_err-weeks.ensures.first)))

pub returns-in_err-check_states-clause-first : goal.returns-in_err-check_states-clause-first
returns-in_err-check_states-clause-first c =
    let s = c.args.scenario.now in
    let f = c.in_err-check_states.field-0.0 in
    let weeks = flat_map (week_faults (known_of c.args.source.now s)) in
    let states : List Nurse → List CaseFault = λ ns. flat_map (state_fault (case_of s [] [])) (enumerate_from 0 ns) in
    IsFirst-through _ f _ c.from_residual-in_err-check_states.ensures.1
    (IsFirst-after _ _ f (both_none _ _ c.in_ok-past.ensures.none (ap weeks (sym c.as_slice.ensures) ∙ c.in_ok-weeks.ensures.none))
    (subst (λ ns. IsFirst (states ns) f) c.as_slice-2.ensures c.in_err-check_states.ensures.first))

pub returns-clause-none : goal.returns-clause-none
returns-clause-none c =
    let s = c.args.scenario.now in
    let weeks = flat_map (week_faults (known_of c.args.source.now s)) in
    let states : List Nurse → List CaseFault = λ ns. flat_map (state_fault (case_of s [] [])) (enumerate_from 0 ns) in
    both_none _ _ (both_none _ _ c.in_ok-past.ensures.none (ap weeks (sym c.as_slice.ensures) ∙ c.in_ok-weeks.ensures.none))
    (ap states (sym c.as_slice-2.ensures) ∙ c.in_ok-check_states.ensures.none)
