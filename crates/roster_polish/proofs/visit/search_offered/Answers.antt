use Rattle.std.proofs.Common.{◌≡◌, ◌∙◌, subst, sym}
use Rattle.roster_offers.specs.Lists.{AreOffersAt, IsFound, best_over_at, offers_on}
use Rattle.roster_slots.specs.Tables.{slot_prices}
use Rattle.roster_prices.proofs.RowBounds.{can_search, row_by_dual_prices_is, some_found}
use Rattle.roster_polish.proofs.visit.search_offered.Goals as goal
use Rattle.roster_polish.proofs.visit.search_offered.Goals.{After-offers}

pub search_at-cost-requires-clause-offers : goal.search_at-cost-requires-clause-offers
search_at-cost-requires-clause-offers g c =
    let t = c.args.terms.now in
    can_search t.case.now t.from t.given.now t.scale (slot_prices t.scale t.dual_prices.now) c.args.nurse t.rows c.requires.nurse c.args.workspace.now.offers c.requires.offers c.keeps_limits.ensures.small.keep

pub search_at-cost-requires-clause-some : goal.search_at-cost-requires-clause-some
search_at-cost-requires-clause-some g c =
    let t = c.args.terms.now in
    some_found t.case.now t.from t.given.now t.scale (slot_prices t.scale t.dual_prices.now) c.args.nurse t.rows c.requires.nurse c.args.workspace.now.offers c.requires.offers

-- the offers that the search went over
those : (g : _) (c : After-offers g) → c.offers.result.now ≡ c.args.workspace.now.offers
those g c = c.offers.ensures ∙ c.search_at-cost.ensures.offers

pub remember-requires-clause-recalls : goal.remember-requires-clause-recalls
remember-requires-clause-recalls g c = (c.args.terms.now.scale, c.requires.recalls)

pub remember-requires-clause-offers : goal.remember-requires-clause-offers
remember-requires-clause-offers g c =
    let t = c.args.terms.now in (
      t.scale,
      subst (AreOffersAt t.case.now c.args.nurse t.scale) (sym (those g (goal.at.remember-requires-clause-offers g c).After-offers))
          (can_search t.case.now t.from t.given.now t.scale (slot_prices t.scale t.dual_prices.now) c.args.nurse t.rows c.requires.nurse c.args.workspace.now.offers c.requires.offers c.keeps_limits.ensures.small.keep),
    )

pub returns-clause-row : goal.returns-clause-row
returns-clause-row g c =
    let t = c.args.terms.now in
    row_by_dual_prices_is t.case.now t.from t.given.now t.scale (slot_prices t.scale t.dual_prices.now) c.args.nurse t.rows c.requires.nurse c.args.workspace.now.offers c.requires.offers c.search_at-cost.result c.search_at-cost.new.self.row
    c.search_at-cost.ensures.best

pub returns-clause-recalls : goal.returns-clause-recalls
returns-clause-recalls g c =
    let t = c.args.terms.now in
    let found = subst (λ table. IsFound (best_over_at t.case.now c.args.nurse t.scale (offers_on table)) c.search_at-cost.result c.search_at-cost.new.self.row) (sym (those g (goal.at.returns-clause-recalls g c).After-offers)) c.search_at-cost.ensures.best in
    c.remember.ensures.recalls t.scale c.requires.recalls c.search_at-cost.new.self.row found
