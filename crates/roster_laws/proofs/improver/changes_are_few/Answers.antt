use Rattle.roster_laws.proofs.Fives.{five_unit, penalty_is, unit_is}
use Rattle.roster_laws.proofs.Runs.{fall, settles}
use Rattle.roster_laws.proofs.Steps.{changed_is_cheaper, falls_by_unit}
use Rattle.roster_laws.proofs.improver.changes_are_few.Goals as goal

pub returns-clause-multiples : goal.returns-clause-multiples
returns-clause-multiples c = penalty_is

pub returns-clause-unit : goal.returns-clause-unit
returns-clause-unit c = unit_is

pub returns-clause-five : goal.returns-clause-five
returns-clause-five c = five_unit

pub returns-clause-changed : goal.returns-clause-changed
returns-clause-changed c = changed_is_cheaper

pub returns-clause-by_unit : goal.returns-clause-by_unit
returns-clause-by_unit c = falls_by_unit

pub returns-clause-fall : goal.returns-clause-fall
returns-clause-fall c = fall

pub returns-clause-settles : goal.returns-clause-settles
returns-clause-settles c = settles
