use Rattle.std.proofs.Common.{◌≡◌, ◌∙◌, ◌++◌, ◌∷◌, [], ap, ap₂, map, rules, sym, take}
use Rattle.std.specs.List.{enumerate_from, flat_map}
use Rattle.std.proofs.lemmas.List.{map_more, take_all}
use Rattle.std.proofs.lemmas.Result.{err_from_is_err_and}
use Rattle.roster_instance.specs.Bundles.{solution_meant}
use Rattle.roster_instance.specs.CaseParts.{known_of}
use Rattle.roster_instance.specs.Refusals.{solution_faults}
use Rattle.roster_instance.proofs.Sections.{IsFirst-numbered, numbered-more_none}
use Rattle.roster_instance.proofs.roster.tables_of.Goals as goal

pub returns-in_err-table_of-clause-first : goal.returns-in_err-table_of-clause-first
returns-in_err-table_of-clause-first c =
    let names = c.args.scenario.now in
    let solution = c.index-solutions-week.result in
    let first = IsFirst-numbered (solution_faults (known_of c.args.source.now names)) c.args.solutions.now c.loop-week.week solution solution
    c.loop-week-test.true c.index-solutions-week.is c.loop-week.invariant.none c.in_err-table_of.field-0.0 c.in_err-table_of.ensures.first in
    let p = err_from_is_err_and c.from_residual-in_err-table_of.result c.from_residual-in_err-table_of.ensures.1 in
    rw (p.1, p.2) first

pub loop-week-preserved : goal.loop-week-preserved
loop-week-preserved c =
    let names = c.args.scenario.now in
    let solutions = c.args.solutions.now in
    let solution = c.index-solutions-week.result in
    let meant = solution_meant c.args.source.now names.nurses names.shifts names.skills in
    record {
      meant = c.in_ok-push.ensures.items ∙ ap₂ (λ xs x. xs ++ x ∷ []) c.loop-week.invariant.meant (c.in_ok-table_of.ensures.meant ∙ ap meant c.index-solutions-week.is)
          ∙ sym (map_more meant solutions c.loop-week.week solution c.loop-week-test.true);
      none = numbered-more_none (solution_faults (known_of c.args.source.now names)) solutions c.loop-week.week solution solution
          c.loop-week-test.true c.index-solutions-week.is c.loop-week.invariant.none c.in_ok-table_of.ensures.none;
    }

pub returns-clause-meant : goal.returns-clause-meant
returns-clause-meant c =
    let names = c.args.scenario.now in
    let whole : take c.loop-week.week c.args.solutions.now ≡ c.args.solutions.now = search (rules, take_all) in
    c.loop-week.invariant.meant ∙ ap (map (solution_meant c.args.source.now names.nurses names.shifts names.skills)) whole

pub returns-clause-none : goal.returns-clause-none
returns-clause-none c =
    let names = c.args.scenario.now in
    let whole : take c.loop-week.week c.args.solutions.now ≡ c.args.solutions.now = search (rules, take_all) in
    ap (λ xs. flat_map (solution_faults (known_of c.args.source.now names)) (enumerate_from 0 xs)) (sym whole) ∙ c.loop-week.invariant.none
