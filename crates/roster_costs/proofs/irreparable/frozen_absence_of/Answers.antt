use Rattle.std.proofs.Common.{◌∙◌, arith, sym}
use Rattle.roster_rules.specs.declared.fault.HardFault.TheVariants.{Absent}
use Rattle.roster_rules.proofs.HardLemmas.{below_first, below_more, first_where, none_where}
use Rattle.roster_costs.proofs.irreparable.frozen_absence_of.Goals as goal

pub returns-then-works_absent : goal.returns-then-works_absent
returns-then-works_absent c =
    below_first _ _ c.loop-day.day (Absent c.args.nurse c.loop-day.day) (omega arith) c.loop-day.invariant (first_where _ (Absent c.args.nurse c.loop-day.day) (sym c.works_absent.ensures ∙ c.if-works_absent.true))

pub loop-day-preserved : goal.loop-day-preserved
loop-day-preserved c = below_more _ c.loop-day.day c.loop-day.invariant (none_where _ (Absent c.args.nurse c.loop-day.day) (sym c.works_absent.ensures ∙ c.if-works_absent.false))
