use Rattle.std.proofs.Common.{◌∙◌, ap, refl}
use Rattle.std.specs.Fmt.{digits}
use Rattle.std.specs.List.{flat_map}
use Rattle.roster_rules.specs.Improver.{line_of}
use Rattle.roster_run_examples.specs.Mini.{mini_of_one_shift}
use Rattle.roster_rules.specs.Penalties.{costs_of, penalty}
use Rattle.roster_rules.specs.Runs.{run_violations}
use Rattle.roster_run_examples.proofs.ThreeRounds.{settled_log, settled_three, stopped_log, stopped_run}
use Rattle.roster_run_examples.proofs.choosing.run_of_three_rounds.Goals as goal

pub returns-clause-log : goal.returns-clause-log
unfolding penalty costs_of run_violations digits
returns-clause-log c = ap (flat_map (line_of mini_of_one_shift)) settled_log ∙ refl

pub returns-clause-settled : goal.returns-clause-settled
returns-clause-settled c = settled_three

pub returns-clause-stopped : goal.returns-clause-stopped
returns-clause-stopped c = stopped_run

pub returns-clause-stopped_log : goal.returns-clause-stopped_log
unfolding penalty costs_of run_violations digits
returns-clause-stopped_log c = ap (flat_map (line_of mini_of_one_shift)) stopped_log ∙ refl
