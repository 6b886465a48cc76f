use Rattle.roster_laws.proofs.Descents.{log_descends}
use Rattle.roster_laws.proofs.improver.penalty_never_rises.Goals as goal

pub returns : goal.returns
returns c = log_descends
