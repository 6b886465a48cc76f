use Rattle.std.proofs.Common.{◌≤◌, [], subst}
use Rattle.roster_instance.specs.CaseParts.{case_of}
use Rattle.roster_instance.specs.Refusals.{state_fault}
use Rattle.roster_instance.specs.Limits.{most_states}
use Rattle.roster_instance.specs.Sizes.{state_count}
use Rattle.roster_instance.specs.declared.fault.CaseFault.TheVariants.{TooManyStates}
use Rattle.roster_instance.proofs.Sections.{IsFirst-numbered, numbered-more_none}
use Rattle.roster_instance.proofs.SizeLemmas.{few_enough, too_many, within-more}
use Rattle.roster_instance.proofs.case.check_states.Goals as goal

pub returns-then-state_count-clause-first : goal.returns-then-state_count-clause-first
returns-then-state_count-clause-first c =
    let all = case_of c.args.scenario.now [] [] in
    let number = c.loop-nurse.nurse in
    let nurse = c.index-nurses-nurse.result in
    IsFirst-numbered (state_fault all) c.args.nurses.now number nurse nurse c.loop-nurse-test.true c.index-nurses-nurse.is c.loop-nurse.invariant.none (TooManyStates number nurse.name)
    (λ other. too_many all number nurse c.state_count.result c.state_count.ensures c.if-state_count.true)

pub loop-nurse-preserved : goal.loop-nurse-preserved
loop-nurse-preserved c =
    let all = case_of c.args.scenario.now [] [] in
    let number = c.loop-nurse.nurse in
    let nurse = c.index-nurses-nurse.result in
    record {
      few = within-more (state_count all) number most_states c.loop-nurse.invariant.few (subst (λ n. n ≤ most_states) c.state_count.ensures c.if-state_count.false);
      none = numbered-more_none (state_fault all) c.args.nurses.now number nurse nurse c.loop-nurse-test.true c.index-nurses-nurse.is c.loop-nurse.invariant.none
          (few_enough all number nurse c.state_count.result c.state_count.ensures c.if-state_count.false);
    }
