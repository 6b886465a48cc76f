use Rattle.roster_offers.specs.Offers.{offers_of}
use Rattle.roster_offers.proofs.Best.{best_some, is_best, penalty_is}
use Rattle.roster_offers.proofs.ScaleLaws.{cost_over}
use Rattle.roster_offers.proofs.OfferLaws.{offers_of_case}
use Rattle.roster_offers.proofs.laws.best_row_is_found_by_states.Goals as goal

pub returns-clause-some : goal.returns-clause-some
returns-clause-some c = best_some

pub returns-clause-best : goal.returns-clause-best
returns-clause-best c = is_best

pub returns-clause-penalty : goal.returns-clause-penalty
returns-clause-penalty c = penalty_is

pub returns-clause-below : goal.returns-clause-below
returns-clause-below c m from r fits keeps n inside small cost offers is =
    cost_over m n (offers_of m from r n) (λ d within. offers_of_case m from r n d small.numbers small.shifts small.skills) small.numbers small.weeks cost offers is
