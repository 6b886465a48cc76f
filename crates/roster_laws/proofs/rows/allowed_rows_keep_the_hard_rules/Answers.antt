use Rattle.roster_laws.proofs.Allowed.{allowed_keeps, best_exists, keeps_allowed, present_allowed, rows_from_week_0}
use Rattle.roster_laws.proofs.rows.allowed_rows_keep_the_hard_rules.Goals as goal

pub returns-clause-members : goal.returns-clause-members
returns-clause-members c = λ m from r n row. (allowed_keeps m from r n row, keeps_allowed m from r n row)

pub returns-clause-present : goal.returns-clause-present
returns-clause-present c = present_allowed

pub returns-clause-best : goal.returns-clause-best
returns-clause-best c = best_exists

pub returns-clause-from_week_0 : goal.returns-clause-from_week_0
returns-clause-from_week_0 c = rows_from_week_0
