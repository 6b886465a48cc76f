use Rattle.roster_polish.proofs.run.polish.Goals as goal

pub returns-clause-ok : goal.returns-clause-ok
returns-clause-ok g c = rw (← c.total.ensures.total) c.polish_found.ensures.ok

pub returns-clause-err : goal.returns-clause-err
returns-clause-err g c = rw (← c.total.ensures.total) c.polish_found.ensures.err
