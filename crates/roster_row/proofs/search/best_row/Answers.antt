use Rattle.std.proofs.Common.{◌∙◌, sym}
use Rattle.roster_laws.specs.Greatest.{greatest_state_count}
use Rattle.roster_offers.specs.Lists.{offers_on}
use Rattle.roster_offers.specs.Offers.{shift_offers}
use Rattle.roster_row.proofs.BestLaws.{best_keeps, found_best, found_penalty}
use Rattle.roster_offers.proofs.WorkspaceLaws.{same_after}
use Rattle.roster_row.proofs.search.best_row.Goals as goal

pub best_of_offers-requires-clause-offers : goal.best_of_offers-requires-clause-offers
best_of_offers-requires-clause-offers g c = (c.args.from, c.offers_of_days.ensures.offers)

pub returns-clause-best : goal.returns-clause-best
returns-clause-best g c =
    found_best c.args.held.now.case c.args.from c.args.held.now.roster c.keeps_rules.ensures.fits c.keeps_rules.ensures.keeps c.args.nurse c.requires.nurse c.offers_of_days.new.workspace.offers c.offers_of_days.ensures.offers
    c.best_of_offers.result.0 c.best_of_offers.new.workspace.row c.best_of_offers.ensures.found

pub returns-clause-keeps : goal.returns-clause-keeps
returns-clause-keeps g c = best_keeps c.args.held.now.case c.args.from c.args.held.now.roster c.args.nurse _ (returns-clause-best g c)

pub returns-clause-total : goal.returns-clause-total
returns-clause-total g c =
    c.best_of_offers.ensures.total
    ∙ sym (found_penalty c.args.held.now.case c.args.from c.args.held.now.roster c.keeps_rules.ensures.fits c.keeps_rules.ensures.keeps c.args.nurse c.requires.nurse c.offers_of_days.new.workspace.offers c.offers_of_days.ensures.offers
    c.best_of_offers.result.0 c.best_of_offers.new.workspace.row c.best_of_offers.ensures.found)

pub returns-clause-are_reachable : goal.returns-clause-are_reachable
returns-clause-are_reachable g c =
    g.met.T.SearchesRows.counted_same (greatest_state_count c.args.held.now.case) c.args.held.now.case c.args.nurse (offers_on c.offers_of_days.new.workspace.offers) (shift_offers c.args.held.now.case c.args.from c.args.held.now.roster c.args.nurse) c.offers_of_days.ensures.offers.each c.args.meter.now c.best_of_offers.new.meter c.best_of_offers.ensures.are_reachable

pub returns-clause-same_capacity : goal.returns-clause-same_capacity
returns-clause-same_capacity g c = same_after _ _ _ c.offers_of_days.ensures.same_capacity c.best_of_offers.ensures.same_capacity
