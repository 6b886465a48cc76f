use Rattle.roster_laws.proofs.Frozen.{all_frozen-run, all_frozen-step}
use Rattle.roster_laws.proofs.improver.frozen_weeks_stay.Goals as goal

pub returns-clause-step : goal.returns-clause-step
returns-clause-step c = λ m from r fits all. all_frozen-step m from all r fits

pub returns-clause-run : goal.returns-clause-run
returns-clause-run c = all_frozen-run
