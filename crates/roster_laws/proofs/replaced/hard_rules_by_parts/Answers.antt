use Rattle.roster_laws.proofs.Keeps.{keeps_hard-parts}
use Rattle.roster_laws.proofs.replaced.hard_rules_by_parts.Goals as goal

pub returns : goal.returns
returns c = keeps_hard-parts
