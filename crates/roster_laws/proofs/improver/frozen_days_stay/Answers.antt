use Rattle.roster_rules.specs.AllowedRows.{best_row}
use Rattle.roster_laws.specs.FrozenDays.{FrozenDaysStay}
use Rattle.roster_laws.proofs.Frozen.{best_stays, stays_self, step_stays, steps_stay}
use Rattle.roster_laws.proofs.Kept.{log_keeps, run_keeps}
use Rattle.roster_laws.proofs.improver.frozen_days_stay.Goals as goal

pub returns-clause-best : goal.returns-clause-best
returns-clause-best c = best_stays

pub returns-clause-step : goal.returns-clause-step
returns-clause-step c = step_stays

pub returns-clause-log : goal.returns-clause-log
returns-clause-log c = λ m from rounds r. log_keeps m (best_row m from) (FrozenDaysStay m from r) (steps_stay m from r) rounds r (stays_self m from r)

pub returns-clause-run : goal.returns-clause-run
returns-clause-run c = λ m from rounds r. run_keeps m (best_row m from) (FrozenDaysStay m from r) (steps_stay m from r) rounds r (stays_self m from r)
