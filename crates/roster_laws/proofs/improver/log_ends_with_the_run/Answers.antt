use Rattle.roster_laws.proofs.Runs.{all, few, last}
use Rattle.roster_laws.proofs.improver.log_ends_with_the_run.Goals as goal

pub returns-clause-last : goal.returns-clause-last
returns-clause-last c = last

pub returns-clause-few : goal.returns-clause-few
returns-clause-few c = few

pub returns-clause-all : goal.returns-clause-all
returns-clause-all c = all
