use Rattle.roster_rules.proofs.RunLaw.{no_violations, border, violations, grown}
use Rattle.roster_rules.proofs.laws.runs_grow_by_a_day.Goals as goal

pub returns-clause-no_violations : goal.returns-clause-no_violations
returns-clause-no_violations c = no_violations

pub returns-clause-border : goal.returns-clause-border
returns-clause-border c = border

pub returns-clause-violations : goal.returns-clause-violations
returns-clause-violations c = violations

pub returns-clause-open : goal.returns-clause-open
returns-clause-open c = grown
