use Rattle.std.proofs.Common.{◌∙◌, ap, length, lit≤, subst, sym}
use Rattle.std.proofs.lemmas.List.{length-map}
use Rattle.roster_instance.specs.Bundles.{week_meant}
use Rattle.roster_instance.specs.CaseParts.{case_with}
use Rattle.roster_instance.specs.Rosters.{Rows}
use Rattle.roster_instance.specs.Small.{HasSmallNumbers}
use Rattle.roster_instance.proofs.Sections.{IsFirst-through}
use Rattle.roster_instance.proofs.CaseLemmas.{case_is, few_states, first_after, first_of_scenario, none_at_all}
use Rattle.roster_instance.proofs.PastLemmas.{past_known}
use Rattle.roster_instance.proofs.SmallLemmas.{meaning_small, small_with}
use Rattle.roster_instance.proofs.case.Case.from_bundle.Goals as goal

pub returns-in_err-scenario-clause-refused : goal.returns-in_err-scenario-clause-refused
returns-in_err-scenario-clause-refused c =
    IsFirst-through c.from_residual.result c.in_err-scenario.field-0.0 _ c.from_residual.ensures.1
    (first_of_scenario c.args.source.now c.args.bundle.now c.in_err-scenario.field-0.0 c.in_err-scenario.ensures.first)

pub returns-in_err-later-clause-refused : goal.returns-in_err-later-clause-refused
returns-in_err-later-clause-refused c =
    let ok = c.in_ok-scenario.ensures in
    IsFirst-through c.from_residual-in_err-later.result c.in_err-later.field-0.0 _ c.from_residual-in_err-later.ensures.1
    (first_after c.args.source.now c.args.bundle.now c.in_ok-scenario.scenario ok.meant ok.none c.in_err-later.field-0.0 c.in_err-later.ensures.first)

pub invariant_of-result : goal.invariant_of-result
invariant_of-result c =
    let s = c.in_ok-scenario.scenario in
    let later = c.in_ok-later.later in
    let ok = c.in_ok-later.ensures in
    record {
      all_weeks = ap length ok.weeks ∙ length-map c.args.bundle.now.week_data (week_meant c.args.source.now s.shifts s.skills s.nurses) ∙ c.requires.weeks ∙ sym c.in_ok-scenario.ensures.weeks;
      few_states = few_states s later.past later.weeks.items c.empty.result 0 ok.few;
      small = small_with _ c.empty.result 0 (lit≤ tt)
          (subst HasSmallNumbers (sym (case_is c.args.source.now c.args.bundle.now s c.in_ok-scenario.ensures.meant later.past later.weeks.items ok.past ok.weeks)) (meaning_small c.args.source.now c.args.bundle.now c.requires.small));
      known_past = past_known c.args.source.now s c.args.bundle.now.history.nurses later.past later.weeks.items s.counts.some_shifts ok.past;
    }

pub returns-clause-meant : goal.returns-clause-meant
returns-clause-meant c =
    let later = c.in_ok-later.later in
    let s = c.in_ok-scenario.scenario in
    ap (λ (base : Rows). case_with s later.past later.weeks.items base 0) c.empty.ensures
    ∙ case_is c.args.source.now c.args.bundle.now c.in_ok-scenario.scenario c.in_ok-scenario.ensures.meant later.past later.weeks.items c.in_ok-later.ensures.past c.in_ok-later.ensures.weeks

pub returns-clause-taken : goal.returns-clause-taken
returns-clause-taken c =
    let ok = c.in_ok-scenario.ensures in
    none_at_all c.args.source.now c.args.bundle.now c.in_ok-scenario.scenario ok.meant ok.none c.in_ok-later.ensures.none

pub returns-clause-weeks : goal.returns-clause-weeks
returns-clause-weeks c =
    let s = c.in_ok-scenario.scenario in
    ap length c.in_ok-later.ensures.weeks ∙ length-map c.args.bundle.now.week_data (week_meant c.args.source.now s.shifts s.skills s.nurses) ∙ c.requires.weeks
