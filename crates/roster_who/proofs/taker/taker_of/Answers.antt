use Rattle.std.proofs.Common.{rules, ◌≡◌, ◌∙◌, ◌+◌, ◌<◌, ap, subst, sym, true, List, Some}
use Rattle.std.specs.Prelude.{All, option_map}
use Rattle.arrayvec.specs.ArrayVec.{ArrayVec}
use Rattle.roster_instance.specs.Choices.{shift_of}
use Rattle.roster_instance.specs.Limits.{most_shifts}
use Rattle.roster_instance.specs.Meaning.{day_count, last_shift, past_of}
use Rattle.roster_instance.specs.Rosters.{Row, is_row_of}
use Rattle.roster_offers.specs.declared.offer.Offer.{Offer}
use Rattle.roster_offers.specs.Lists.{offers_on}
use Rattle.roster_who.specs.Ways.{last_index, leads_on}
use Rattle.roster_who.specs.Who.{taker_by}
use Rattle.roster_who.proofs.TakingLemmas.{can_search, none_listed, indices_fit, row_fits_case, row_listed, some_found}
use Rattle.roster_who.proofs.taker.taker_of.Goals as goal
use Rattle.roster_who.proofs.taker.taker_of.Goals.{After-leads_through}

-- whether a row leads through the offers that were put in
leads : (g : _) (c : After-leads_through g) → c.leads_through.result ≡ leads_on c.args.asking.now.case.now (offers_on c.offers_of_days.new.workspace.offers) (day_count c.args.asking.now.case.now) 0 (last_shift (past_of c.args.asking.now.case.now c.args.nurse).border)
leads g c =
    let k = c.args.asking.now.case.now in
    c.leads_through.ensures ∙ ap (λ (os : List (ArrayVec Offer)). leads_on k (offers_on os) (day_count k) 0 (last_shift (past_of k c.args.nurse).border)) c.offers.ensures

pub leads_through-requires-clause-places : goal.leads_through-requires-clause-places
leads_through-requires-clause-places g c =
    let k = c.args.asking.now.case.now in
    let r = c.args.asking.now.roster.now in
    λ d inside. subst (λ (os : List (ArrayVec Offer)). All (λ offer. last_index (shift_of offer.choice) < 1 + most_shifts) (offers_on os d)) (sym c.offers.ensures)
    (indices_fit k c.args.asking.now.from r c.args.asking.now.asked c.args.nurse (search rules) c.requires.nurse (search rules) c.offers_of_days.new.workspace.offers c.offers_of_days.ensures.offers c.keeps_limits.ensures.small.keep c.keeps_limits.ensures.shifts d inside)

pub returns-then-not-leads_through-clause-taker : goal.returns-then-not-leads_through-clause-taker
returns-then-not-leads_through-clause-taker g c =
    let k = c.args.asking.now.case.now in
    let r = c.args.asking.now.roster.now in
    let at = (goal.at.returns-then-not-leads_through-clause-taker g c).After-leads_through in
    sym (ap (option_map (taker_by k r c.args.nurse)) (none_listed k c.args.asking.now.from r c.args.asking.now.asked c.args.nurse (search rules) c.requires.nurse (search rules) c.offers_of_days.new.workspace.offers c.offers_of_days.ensures.offers (sym (leads g at) ∙ c.if-not-leads_through.true)))

pub search_offers-requires-clause-offers : goal.search_offers-requires-clause-offers
search_offers-requires-clause-offers g c =
    let k = c.args.asking.now.case.now in
    let r = c.args.asking.now.roster.now in
    let at = (goal.at.search_offers-requires-clause-offers g c).After-leads_through in
    can_search k c.args.asking.now.from r c.args.asking.now.asked c.args.nurse (search rules) c.requires.nurse (search rules) c.offers_of_days.new.workspace.offers c.offers_of_days.ensures.offers (sym (leads g at) ∙ c.if-not-leads_through.false) c.keeps_limits.ensures.small.keep

pub search_offers-requires-clause-some : goal.search_offers-requires-clause-some
search_offers-requires-clause-some g c =
    let k = c.args.asking.now.case.now in
    let r = c.args.asking.now.roster.now in
    let at = (goal.at.search_offers-requires-clause-some g c).After-leads_through in
    some_found k c.args.asking.now.from r c.args.asking.now.asked c.args.nurse (search rules) c.requires.nurse (search rules) c.offers_of_days.new.workspace.offers c.offers_of_days.ensures.offers (sym (leads g at) ∙ c.if-not-leads_through.false)

pub taker_by-requires-clause-row : goal.taker_by-requires-clause-row
taker_by-requires-clause-row g c =
    let k = c.args.asking.now.case.now in
    let r = c.args.asking.now.roster.now in
    let at = (goal.at.taker_by-requires-clause-row g c).After-leads_through in
    subst (λ (row : Row). is_row_of k row ≡ true) (sym c.row.ensures)
    (row_fits_case k c.args.asking.now.from r c.args.asking.now.asked c.args.nurse (search rules) c.requires.nurse (search rules) c.offers_of_days.new.workspace.offers c.offers_of_days.ensures.offers (sym (leads g at) ∙ c.if-not-leads_through.false)
    c.search_offers.result c.search_offers.new.self.row c.search_offers.ensures.best)

pub returns-clause-taker : goal.returns-clause-taker
returns-clause-taker g c =
    let k = c.args.asking.now.case.now in
    let r = c.args.asking.now.roster.now in
    let at = (goal.at.returns-clause-taker g c).After-leads_through in
    let gathered = row_listed k c.args.asking.now.from r c.args.asking.now.asked c.args.nurse (search rules) c.requires.nurse (search rules) c.offers_of_days.new.workspace.offers c.offers_of_days.ensures.offers (sym (leads g at) ∙ c.if-not-leads_through.false) c.search_offers.result
    c.search_offers.new.self.row c.search_offers.ensures.best in
    ap Some (c.taker_by.ensures.taker ∙ ap (taker_by k r c.args.nurse) c.row.ensures) ∙ sym (ap (option_map (taker_by k r c.args.nurse)) gathered)
