use Rattle.std.proofs.Common.{◌+◌}
use Rattle.roster_bound.specs.Rounds.{sum_in}
use Rattle.roster_bound.proofs.bounds.sum_in.Goals as goal

pub returns-clause-sum : goal.returns-clause-sum
unfolding sum_in
returns-clause-sum g c = λ i. c.slots_bound-slots.ensures.bound i + c.row_bounds.ensures.bounds i
