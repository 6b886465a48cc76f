use Rattle.std.proofs.Common.{arith}
use Rattle.roster_instance.specs.Sizes.{state_count}
use Rattle.roster_offers.proofs.WorkspaceLaws.{all_nurses, greatest_more}
use Rattle.roster_offers.proofs.workspace.greatest_states.Goals as goal

pub loop-nurse-preserved : goal.loop-nurse-preserved
loop-nurse-preserved c = record {
  so_far = greatest_more (state_count c.args.case.now) c.loop-nurse.nurse _ _ _ c.loop-nurse.invariant.so_far c.states.ensures.count c.max-greatest.ensures;
  within = omega (arith, c.max-greatest.ensures, c.loop-nurse.invariant.within, c.states.ensures.within);
}

pub returns-clause-greatest : goal.returns-clause-greatest
returns-clause-greatest c = all_nurses c.args.case.now c.loop-nurse.greatest c.loop-nurse.nurse c.loop-nurse.invariant.so_far (omega (arith, c.loop-nurse-test.false, c.loop-nurse.auto.nurse-end, c.nurses-nurse-end.ensures.count))
