use Rattle.roster_rules.proofs.RowLaw.{row_grown, row_violations}
use Rattle.roster_rules.proofs.laws.runs_of_a_row_grow_by_a_day.Goals as goal

pub returns-clause-violations : goal.returns-clause-violations
returns-clause-violations c = row_violations

pub returns-clause-open : goal.returns-clause-open
returns-clause-open c = row_grown
