use Rattle.roster_rules.specs.Penalties.{penalty}
use Rattle.roster_rules.proofs.Bounds.{penalty-at_most, penalty-unkept, penalty-within}
use Rattle.roster_laws.proofs.bounds.penalties_are_low.Goals as goal

pub returns-clause-all : goal.returns-clause-all
unfolding penalty
returns-clause-all c m small nurses r fits =
    (penalty-at_most m r small.numbers small.shifts small.skills small.weeks nurses fits, penalty-within m r small.numbers small.shifts small.skills small.weeks nurses fits)

pub returns-clause-unkept : goal.returns-clause-unkept
unfolding penalty
returns-clause-unkept c m small nurses none r fits = penalty-unkept m r small.numbers small.shifts small.skills small.weeks nurses none fits
