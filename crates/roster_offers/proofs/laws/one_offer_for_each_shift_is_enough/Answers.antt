use Rattle.roster_offers.proofs.ByShift.{best_by_shift, by_shift_among, by_shift_few, by_shift_fewer, by_shift_some}
use Rattle.roster_offers.proofs.laws.one_offer_for_each_shift_is_enough.Goals as goal

pub returns-clause-best : goal.returns-clause-best
returns-clause-best c = best_by_shift

pub returns-clause-among : goal.returns-clause-among
returns-clause-among c = by_shift_among

pub returns-clause-fewer : goal.returns-clause-fewer
returns-clause-fewer c = by_shift_fewer

pub returns-clause-some : goal.returns-clause-some
returns-clause-some c = by_shift_some

pub returns-clause-few : goal.returns-clause-few
returns-clause-few c = by_shift_few
