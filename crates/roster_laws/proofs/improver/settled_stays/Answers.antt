use Rattle.roster_laws.proofs.Runs.{settled_round, settled_rows, settled_steps}
use Rattle.roster_laws.proofs.improver.settled_stays.Goals as goal

pub returns-clause-steps : goal.returns-clause-steps
returns-clause-steps c = settled_steps

pub returns-clause-round : goal.returns-clause-round
returns-clause-round c = settled_round

pub returns-clause-rows : goal.returns-clause-rows
returns-clause-rows c = settled_rows
