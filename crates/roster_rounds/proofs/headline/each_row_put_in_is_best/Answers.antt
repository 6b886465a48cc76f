use Rattle.std.proofs.Common.{ap}
use Rattle.roster_rules.specs.AllowedRows.{best_row}
use Rattle.roster_rules.specs.Improver.{Run}
use Rattle.roster_laws.proofs.Descents.{log_descends}
use Rattle.roster_laws.proofs.Kept.{IsKept, log_keeps, step_keeps}
use Rattle.roster_laws.proofs.Runs.{settled_rows}
use Rattle.roster_rounds.proofs.PutsIn.{log_does}
use Rattle.roster_rounds.proofs.headline.each_row_put_in_is_best.Goals as goal

pub returns-clause-best : goal.returns-clause-best
returns-clause-best g = λ c r from rounds accepted. log_does c from rounds r

pub returns-clause-falls : goal.returns-clause-falls
returns-clause-falls g = λ c r from rounds accepted i j d before within. (log_descends c (best_row c from) rounds r i j d before within).never_rises

pub returns-clause-accepted : goal.returns-clause-accepted
returns-clause-accepted g = λ c r from rounds accepted. log_keeps c (best_row c from) (IsKept c) (step_keeps c from) rounds r accepted

pub returns-clause-settled : goal.returns-clause-settled
returns-clause-settled g = λ c r last from rounds accepted ends n inside.
    rw (ap (λ (e : Run). e.roster) ends) at (settled_rows c from rounds r (ap (λ (e : Run). e.is_settled) ends) n inside)
