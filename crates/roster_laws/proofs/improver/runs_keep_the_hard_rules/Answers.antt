use Rattle.roster_rules.specs.AllowedRows.{best_row}
use Rattle.roster_laws.proofs.Kept.{IsKept, log_keeps, run_keeps, step_keeps}
use Rattle.roster_laws.proofs.improver.runs_keep_the_hard_rules.Goals as goal

pub returns-clause-log : goal.returns-clause-log
returns-clause-log c = λ m from rounds r fitting kept. log_keeps m (best_row m from) (IsKept m) (step_keeps m from) rounds r (fitting, kept)

pub returns-clause-run : goal.returns-clause-run
returns-clause-run c = λ m from rounds r fitting kept. run_keeps m (best_row m from) (IsKept m) (step_keeps m from) rounds r (fitting, kept)
