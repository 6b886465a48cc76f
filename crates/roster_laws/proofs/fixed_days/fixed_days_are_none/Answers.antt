use Rattle.roster_laws.proofs.NothingFixed.{allowed_by_weeks, frozen_by_weeks, nothing_is_fixed}
use Rattle.roster_laws.proofs.fixed_days.fixed_days_are_none.Goals as goal

pub returns-clause-nothing : goal.returns-clause-nothing
returns-clause-nothing c = nothing_is_fixed

pub returns-clause-frozen : goal.returns-clause-frozen
returns-clause-frozen c = frozen_by_weeks

pub returns-clause-rows : goal.returns-clause-rows
returns-clause-rows c = allowed_by_weeks
