use Rattle.roster_offers.specs.Lists.{offers_on}
use Rattle.roster_row.proofs.RecallLaws.{SoFar}
use Rattle.roster_row.proofs.last.LastSearches.has_none_cheaper.Given as goal

abbrev pub invariant-loop-day : goal.invariant-loop-day
invariant-loop-day l = SoFar l.held.case l.self l.nurse (offers_on l.offers) l.day l.initial.least l.least l.initial.present l.present
