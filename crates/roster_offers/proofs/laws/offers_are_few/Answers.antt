use Rattle.roster_offers.proofs.OfferLaws.{offers_few, offers_free, offers_frozen, offers_of_case, offers_some}
use Rattle.roster_offers.proofs.laws.offers_are_few.Goals as goal

pub returns-clause-each : goal.returns-clause-each
returns-clause-each c k small shifts skills from r n d = offers_of_case k from r n d small shifts skills

pub returns-clause-few : goal.returns-clause-few
returns-clause-few c = offers_few

pub returns-clause-some : goal.returns-clause-some
returns-clause-some c k from r fits keeps n inside d day = offers_some k from r n d fits keeps inside day

pub returns-clause-frozen : goal.returns-clause-frozen
returns-clause-frozen c k from r fits keeps n inside d day frozen = offers_frozen k from r n d fits keeps inside day frozen

pub returns-clause-free : goal.returns-clause-free
returns-clause-free c = offers_free
