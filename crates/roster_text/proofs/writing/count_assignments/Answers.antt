use Rattle.std.proofs.Common.{rules, arith}
use Rattle.roster_bundle.specs.Canonical.{assignments}
use Rattle.roster_text.proofs.Lines.{count-nurse_more}
use Rattle.roster_text.proofs.writing.count_assignments.Goals as goal

pub loop-nurse-preserved : goal.loop-nurse-preserved
loop-nurse-preserved g c = record {
  counted = count-nurse_more _ _ _ _ c.loop-nurse.invariant.counted c.count_of_nurse-count.ensures.count;
  at_most_daily = omega arith;
}

pub returns : goal.returns
unfolding assignments
returns g c = search rules
