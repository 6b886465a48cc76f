use Rattle.std.proofs.Common.{refl}
use Rattle.std.specs.Fmt.{digits}
use Rattle.roster_rules.specs.Improver.{log_of}
use Rattle.roster_rules.specs.Penalties.{costs_of, penalty}
use Rattle.roster_rules.specs.Runs.{run_violations}
use Rattle.roster_run_examples.proofs.rows.log_of_no_rounds.Goals as goal

pub returns : goal.returns
unfolding log_of penalty costs_of run_violations digits
returns c = refl
