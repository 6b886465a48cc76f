use Rattle.std.proofs.Common.{◌≡◌, ◌∙◌, ◌+◌, ◌<◌, [], ap, arith, subst, sym}
use Rattle.roster_instance.specs.Meaning.{Meaning}
use Rattle.roster_rules.specs.Prefix.{due}
use Rattle.roster_rules.specs.PenaltyBounds.{penalty_limit}
use Rattle.roster_laws.specs.Greatest.{greatest_state_count}
use Rattle.roster_offers.specs.Lists.{AreOffers, IsFound, best_over, offers_on}
use Rattle.std.proofs.Common.{IsSome}
use Rattle.roster_row.proofs.BestLaws.{KeepsLimits, found_is, sum_within}
use Rattle.roster_row.proofs.OffersLaws.{can_search, some_found}
use Rattle.roster_row.proofs.search.best_of_offers.Goals as goal
use Rattle.roster_row.proofs.search.best_of_offers.Goals.{After-rest}

-- ---- the search can be made

pub search_offers-cost-requires-clause-offers : goal.search_offers-cost-requires-clause-offers
search_offers-cost-requires-clause-offers g c =
    let kept = c.keeps_limits.ensures in
    let limits : KeepsLimits c.args.held.now.case = subst KeepsLimits c.case.ensures (record { small = kept.small; weeks = kept.weeks; shifts = kept.shifts; skills = kept.skills; nurses = kept.nurses }) in
    subst (λ (m : Meaning). AreOffers m c.args.nurse c.args.workspace.now.offers) (sym c.case-2.ensures)
    (can_search c.args.held.now.case c.requires.offers.0 c.args.held.now.roster c.args.nurse c.args.workspace.now.offers c.requires.offers.1 limits.small limits.shifts limits.skills c.keeps_rules.ensures.fits c.keeps_rules.ensures.keeps c.requires.nurse)

pub search_offers-cost-requires-clause-some : goal.search_offers-cost-requires-clause-some
search_offers-cost-requires-clause-some g c =
    subst (λ (m : Meaning). IsSome (best_over m c.args.nurse (offers_on c.args.workspace.now.offers))) (sym c.case-2.ensures)
    (some_found c.args.held.now.case c.requires.offers.0 c.args.held.now.roster c.args.nurse c.args.workspace.now.offers c.requires.offers.1 c.keeps_rules.ensures.fits c.keeps_rules.ensures.keeps c.requires.nurse)

-- ---- what it finds

found : (g : _) (c : After-rest g) → IsFound (best_over c.args.held.now.case c.args.nurse (offers_on c.args.workspace.now.offers)) c.search_offers-cost.result c.search_offers-cost.new.self.row
found g c = subst (λ (m : Meaning). IsFound (best_over m c.args.nurse (offers_on c.args.workspace.now.offers)) c.search_offers-cost.result c.search_offers-cost.new.self.row) c.case-2.ensures c.search_offers-cost.ensures.best

pub returns-clause-found : goal.returns-clause-found
returns-clause-found g c = found g (goal.at.returns-clause-found g c).After-rest

pub returns-clause-are_reachable : goal.returns-clause-are_reachable
returns-clause-are_reachable g c = subst (λ (m : Meaning). g.T.SearchesRows.IsCounted (greatest_state_count m) m c.args.nurse (offers_on c.args.workspace.now.offers) c.args.meter.now c.search_offers-cost.new.meter) c.case-2.ensures c.search_offers-cost.ensures.are_reachable

-- ---- the penalty

owed_is : (g : _) (c : After-rest g) → c.start-owed.result.1 ≡ due c.args.held.now.case c.args.nurse []
owed_is g c = c.start-owed.ensures.cost ∙ ap (λ (m : Meaning). due m c.args.nurse []) c.case-3.ensures

sum_fits : (g : _) (c : After-rest g) → c.rest.result + c.start-owed.result.1 + c.search_offers-cost.result < penalty_limit
sum_fits g c =
    let kept = c.keeps_limits.ensures in
    let k = c.args.held.now.case in
    let rows = c.args.held.now.roster in
    let limits : KeepsLimits k = subst KeepsLimits c.case.ensures (record { small = kept.small; weeks = kept.weeks; shifts = kept.shifts; skills = kept.skills; nurses = kept.nurses }) in
    let is = found_is k c.requires.offers.0 rows c.keeps_rules.ensures.fits c.keeps_rules.ensures.keeps c.args.nurse c.requires.nurse c.args.workspace.now.offers c.requires.offers.1 c.search_offers-cost.result c.search_offers-cost.new.self.row (found g c) in
    omega (arith, sum_within k c.requires.offers.0 rows limits c.keeps_rules.ensures.fits c.keeps_rules.ensures.keeps c.args.nurse c.requires.nurse c.search_offers-cost.result (found g c).offers is, c.rest.ensures, owed_is g c)

pub overflow_add-total : goal.overflow_add-total
overflow_add-total g c = omega (arith, sum_fits g c)

pub overflow_add-total-2 : goal.overflow_add-total-2
overflow_add-total-2 g c = omega (arith, sum_fits g (goal.at.overflow_add-total-2 g c).After-rest)

pub returns-clause-total : goal.returns-clause-total
returns-clause-total g c = omega (arith, c.rest.ensures, owed_is g (goal.at.returns-clause-total g c).After-rest)
