use Rattle.std.proofs.Common.{◌∙◌, arith, sym}
use Rattle.roster_instance.specs.Meaning.{nurse_count}
use Rattle.roster_rules.proofs.AllBelow.{all_fails, all_more}
use Rattle.roster_costs.proofs.irreparable.is_frozen_for_all.Goals as goal

pub returns-then-not-is_frozen : goal.returns-then-not-is_frozen
returns-then-not-is_frozen c = sym (all_fails (nurse_count c.args.case.now) _ c.loop-nurse.nurse (omega arith) (sym c.is_frozen.ensures ∙ c.if-not-is_frozen.true))

pub loop-nurse-preserved : goal.loop-nurse-preserved
loop-nurse-preserved c = all_more _ c.loop-nurse.nurse c.loop-nurse.invariant (sym c.is_frozen.ensures ∙ c.if-not-is_frozen.false)
