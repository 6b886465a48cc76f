use Rattle.roster_laws.proofs.Shortfall.{shortfall-off, shortfall-work, meets-shortfall, staffing-shortfall}
use Rattle.roster_laws.proofs.replaced.staffing_by_shortfall.Goals as goal

pub returns-clause-staffing : goal.returns-clause-staffing
returns-clause-staffing c = staffing-shortfall

pub returns-clause-minimums : goal.returns-clause-minimums
returns-clause-minimums c = meets-shortfall

pub returns-clause-off : goal.returns-clause-off
returns-clause-off c = shortfall-off

pub returns-clause-work : goal.returns-clause-work
returns-clause-work c = shortfall-work
