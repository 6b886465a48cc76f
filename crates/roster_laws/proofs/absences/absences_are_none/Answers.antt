use Rattle.roster_laws.proofs.NobodyAbsent.{all_allowed, all_breaches, nobody_is_absent}
use Rattle.roster_laws.proofs.absences.absences_are_none.Goals as goal

pub returns-clause-nobody : goal.returns-clause-nobody
returns-clause-nobody c = nobody_is_absent

pub returns-clause-breaches : goal.returns-clause-breaches
returns-clause-breaches c = all_breaches

pub returns-clause-rows : goal.returns-clause-rows
returns-clause-rows c = all_allowed
