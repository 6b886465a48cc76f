use Rattle.roster_rules.proofs.FirstLeast.{found, only}
use Rattle.roster_rules.proofs.rows.one_first_least_row.Goals as goal

pub returns-clause-found : goal.returns-clause-found
returns-clause-found c = found

pub returns-clause-only : goal.returns-clause-only
returns-clause-only c = only
