use Rattle.std.proofs.Common.{◌≡◌, ◌∙◌, ◌<◌, ap, length, subst, sym}
use Rattle.std.proofs.Math.Path.{transport}
use Rattle.roster_instance.specs.Meaning.{Meaning, day_count, nurse_count}
use Rattle.roster_laws.specs.Greatest.{greatest_state_count}
use Rattle.roster_offers.specs.Offers.{shift_offers}
use Rattle.roster_offers.specs.Lists.{AreOffersAt, IsFound, best_over, best_over_at, offers_on}
use Rattle.roster_offers.proofs.AtOne.{best_over_one}
use Rattle.roster_row.specs.Recalled.{RecallsSearches}
use Rattle.roster_row.specs.Searches.{AreShiftOffers}
use Rattle.roster_row.proofs.BestLaws.{KeepsLimits, best_keeps, found_best, found_penalty}
use Rattle.roster_row.proofs.OffersLaws.{can_search}
use Rattle.roster_offers.proofs.WorkspaceLaws.{same_after}
use Rattle.roster_row.proofs.search.cheaper_row.Goals as goal
use Rattle.roster_row.proofs.search.cheaper_row.Goals.{After-offers-2}

pub has_none_cheaper-requires-clause-offers : goal.has_none_cheaper-requires-clause-offers
has_none_cheaper-requires-clause-offers g c =
    (c.args.from, subst (AreShiftOffers c.args.held.now.case c.args.from c.args.held.now.roster c.args.nurse) (sym c.offers.ensures) c.offers_of_days.ensures.offers)

pub returns-then-has_none_cheaper-clause-none : goal.returns-then-has_none_cheaper-clause-none
returns-then-has_none_cheaper-clause-none g c =
    c.has_none_cheaper.ensures c.if-has_none_cheaper.true c.args.from (subst (AreShiftOffers c.args.held.now.case c.args.from c.args.held.now.roster c.args.nurse) (sym c.offers.ensures) c.offers_of_days.ensures.offers)

pub best_of_offers-cost-requires-clause-offers : goal.best_of_offers-cost-requires-clause-offers
best_of_offers-cost-requires-clause-offers g c = (c.args.from, c.offers_of_days.ensures.offers)

-- what the search went over
those : (g : _) (c : After-offers-2 g) → c.offers-2.result.now ≡ c.offers_of_days.new.workspace.offers
those g c = c.offers-2.ensures ∙ c.best_of_offers-cost.ensures.offers

pub remember-requires-clause-nurse : goal.remember-requires-clause-nurse
remember-requires-clause-nurse g c = subst (λ (m : Meaning). c.args.nurse < nurse_count m) (sym c.case-2.ensures) c.requires.nurse

pub remember-requires-clause-recalls : goal.remember-requires-clause-recalls
remember-requires-clause-recalls g c = (1, subst (λ (m : Meaning). RecallsSearches m c.args.last.now) (sym c.case-2.ensures) c.requires.recalls)

pub remember-requires-clause-days : goal.remember-requires-clause-days
remember-requires-clause-days g c = ap length (those g (goal.at.remember-requires-clause-days g c).After-offers-2) ∙ c.offers_of_days.ensures.offers.days ∙ sym (ap day_count c.case-2.ensures)

pub remember-requires-clause-offers : goal.remember-requires-clause-offers
remember-requires-clause-offers g c =
    let k = c.args.held.now.case in
    let kept = c.keeps_limits.ensures in
    let within : KeepsLimits k = subst KeepsLimits c.case.ensures (record { small = kept.small; weeks = kept.weeks; shifts = kept.shifts; skills = kept.skills; nurses = kept.nurses }) in
    let offers = c.offers_of_days.new.workspace.offers in
    let can = can_search k c.args.from c.args.held.now.roster c.args.nurse offers c.offers_of_days.ensures.offers within.small within.shifts within.skills c.keeps_rules.ensures.fits c.keeps_rules.ensures.keeps c.requires.nurse in
    (1, transport (λ i. AreOffersAt (sym c.case-2.ensures i) c.args.nurse 1 (sym (those g (goal.at.remember-requires-clause-offers g c).After-offers-2) i)) can)

-- the search was made in whole points
found_at_one : (g : _) (c : After-offers-2 g) → IsFound (best_over_at c.case-2.result.now c.args.nurse 1 (offers_on c.offers-2.result.now)) c.best_of_offers-cost.result.0 c.best_of_offers-cost.new.workspace.row
found_at_one g c =
    let cost = c.best_of_offers-cost.result.0 in
    let row = c.best_of_offers-cost.new.workspace.row in
    let k = c.case-2.result.now in
    let here = transport (λ i. IsFound (best_over (sym c.case-2.ensures i) c.args.nurse (offers_on (sym (those g c) i))) cost row) c.best_of_offers-cost.ensures.found in
    subst (λ best. IsFound best cost row) (sym (best_over_one k c.args.nurse (offers_on c.offers-2.result.now))) here

pub returns-clause-recalls : goal.returns-clause-recalls
returns-clause-recalls g c =
    subst (λ (m : Meaning). RecallsSearches m c.remember.new.self) c.case-2.ensures
    (c.remember.ensures.recalls 1 (subst (λ (m : Meaning). RecallsSearches m c.args.last.now) (sym c.case-2.ensures) c.requires.recalls) c.best_of_offers-cost.new.workspace.row (found_at_one g (goal.at.returns-clause-recalls g c).After-offers-2))

pub returns-clause-best : goal.returns-clause-best
returns-clause-best g c =
    found_best c.args.held.now.case c.args.from c.args.held.now.roster c.keeps_rules.ensures.fits c.keeps_rules.ensures.keeps c.args.nurse c.requires.nurse c.offers_of_days.new.workspace.offers c.offers_of_days.ensures.offers
    c.best_of_offers-cost.result.0 c.best_of_offers-cost.new.workspace.row c.best_of_offers-cost.ensures.found

pub returns-clause-keeps : goal.returns-clause-keeps
returns-clause-keeps g c = best_keeps c.args.held.now.case c.args.from c.args.held.now.roster c.args.nurse _ (returns-clause-best g c)

pub returns-clause-total : goal.returns-clause-total
returns-clause-total g c =
    c.best_of_offers-cost.ensures.total
    ∙ sym (found_penalty c.args.held.now.case c.args.from c.args.held.now.roster c.keeps_rules.ensures.fits c.keeps_rules.ensures.keeps c.args.nurse c.requires.nurse c.offers_of_days.new.workspace.offers c.offers_of_days.ensures.offers
    c.best_of_offers-cost.result.0 c.best_of_offers-cost.new.workspace.row c.best_of_offers-cost.ensures.found)

pub returns-clause-same_capacity : goal.returns-clause-same_capacity
returns-clause-same_capacity g c = same_after _ _ _ c.offers_of_days.ensures.same_capacity c.best_of_offers-cost.ensures.same_capacity

-- ---- what it takes

pub returns-clause-are_reachable : goal.returns-clause-are_reachable
returns-clause-are_reachable g c =
    g.met.T.SearchesRows.counted_same (greatest_state_count c.args.held.now.case) c.args.held.now.case c.args.nurse (offers_on c.offers_of_days.new.workspace.offers) (shift_offers c.args.held.now.case c.args.from c.args.held.now.roster c.args.nurse) c.offers_of_days.ensures.offers.each c.args.meter.now c.best_of_offers-cost.new.meter c.best_of_offers-cost.ensures.are_reachable
