use Rattle.roster_laws.proofs.OneRow.{penalty-parts}
use Rattle.roster_laws.proofs.replaced.penalty_by_parts.Goals as goal

pub returns-clause-penalty : goal.returns-clause-penalty
returns-clause-penalty c = penalty-parts
