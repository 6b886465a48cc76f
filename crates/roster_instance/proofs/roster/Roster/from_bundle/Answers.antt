use Rattle.std.proofs.Common.{◌≡◌, ◌∙◌, ◌<◌, ap, length, List, map, subst, sym}
use Rattle.std.specs.List.{enumerate_from, flat_map, range_with_len}
use Rattle.roster_bundle.specs.declared.bundle.Solution.{Solution}
use Rattle.roster_instance.specs.declared.fault.CaseFault.{CaseFault}
use Rattle.roster_instance.specs.Bundles.{row_meant, rows_of, solution_meant}
use Rattle.roster_instance.specs.Checking.{IsFirst}
use Rattle.roster_instance.specs.CaseParts.{known_of}
use Rattle.roster_instance.specs.Refusals.{solution_faults}
use Rattle.roster_instance.specs.Rosters.{fits_case}
use Rattle.roster_instance.proofs.Sections.{IsFirst-through}
use Rattle.roster_instance.proofs.FitLemmas.{faults_same, rows-fit, rows_same}
use Rattle.roster_instance.proofs.roster.Roster.from_bundle.Goals as goal

pub returns-in_err-tables-clause-refused : goal.returns-in_err-tables-clause-refused
returns-in_err-tables-clause-refused c =
    let s = c.scenario.result.now in
    let are = c.scenario.ensures in
    let faults : List Solution → List CaseFault = λ xs. flat_map (solution_faults (known_of c.args.source.now s)) (enumerate_from 0 xs) in
    let e = c.in_err-tables.field-0.0 in
    IsFirst-through c.from_residual.result e _ c.from_residual.ensures.1
    (subst (λ fs. IsFirst fs e) (faults_same c.args.source.now s.name.items s.nurses s.shifts s.skills c.args.case.now are.name are.nurses are.shifts are.skills c.args.bundle.now)
    (subst (λ xs. IsFirst (faults xs) e) c.as_slice.ensures c.in_err-tables.ensures.first))

rows_are : (c : goal.After-drop-tables-2) → map (λ row. row.items) c.in_ok-rows.rows.items ≡ rows_of c.args.source.now c.args.case.now c.args.bundle.now
rows_are c =
    let s = c.scenario.result.now in
    let are = c.scenario.ensures in
    let meant = solution_meant c.args.source.now s.nurses s.shifts s.skills in
    let tables = c.deref.ensures.value ∙ c.in_ok-tables.ensures.meant ∙ ap (map meant) c.as_slice.ensures in
    c.in_ok-rows.ensures ∙ (λ i. map (row_meant (tables i)) (range_with_len 0 (c.nurses.ensures.count i)))
    ∙ rows_same c.args.source.now s.name.items s.nurses s.shifts s.skills c.args.case.now are.name are.nurses are.shifts are.skills c.args.bundle.now

pub returns-clause-meant : goal.returns-clause-meant
returns-clause-meant c = rows_are c

pub returns-clause-fitting : goal.returns-clause-fitting
returns-clause-fitting c =
    let s = c.scenario.result.now in
    let are = c.scenario.ensures in
    let some_shifts : 0 < length c.args.case.now.shift_names = subst (λ names. 0 < length names) are.shifts s.counts.some_shifts in
    let some_skills : 0 < length c.args.case.now.skill_names = subst (λ names. 0 < length names) are.skills s.counts.some_skills in
    ap (fits_case c.args.case.now) (rows_are c) ∙ rows-fit c.args.source.now c.args.case.now some_shifts some_skills c.args.bundle.now c.requires

pub returns-clause-taken : goal.returns-clause-taken
returns-clause-taken c =
    let s = c.scenario.result.now in
    let are = c.scenario.ensures in
    let faults : List Solution → List CaseFault = λ xs. flat_map (solution_faults (known_of c.args.source.now s)) (enumerate_from 0 xs) in
    sym (faults_same c.args.source.now s.name.items s.nurses s.shifts s.skills c.args.case.now are.name are.nurses are.shifts are.skills c.args.bundle.now)
    ∙ ap faults (sym c.as_slice.ensures) ∙ c.in_ok-tables.ensures.none
