use Rattle.std.proofs.Common.{arith}
use Rattle.roster_laws.specs.Greatest.{extension_count}
use Rattle.roster_offers.proofs.WorkspaceLaws.{greatest_more}
use Rattle.roster_rounds.proofs.Counts.{all_extensions}
use Rattle.roster_rounds.proofs.room.greatest_extensions.Goals as goal

pub loop-nurse-preserved : goal.loop-nurse-preserved
loop-nurse-preserved c = record {
  so_far = greatest_more (extension_count c.args.case.now) c.loop-nurse.nurse _ _ _ c.loop-nurse.invariant.so_far c.most_search_extensions.ensures.count c.max-greatest.ensures;
  within = omega (arith, c.max-greatest.ensures, c.loop-nurse.invariant.within, c.most_search_extensions.ensures.within);
}

pub returns-clause-greatest : goal.returns-clause-greatest
returns-clause-greatest c = all_extensions c.args.case.now c.loop-nurse.greatest c.loop-nurse.nurse c.loop-nurse.invariant.so_far (omega (arith, c.loop-nurse-test.false, c.loop-nurse.auto.nurse-end, c.nurses-nurse-end.ensures.count))
