use Rattle.roster_laws.proofs.Runs.{stopped_round}
use Rattle.roster_laws.proofs.improver.last_round_decides.Goals as goal

pub returns : goal.returns
returns c = stopped_round
