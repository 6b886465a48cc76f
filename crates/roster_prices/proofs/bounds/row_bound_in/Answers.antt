use Rattle.std.proofs.Common.{◌∙◌, ◌+◌, ◌*◌, ap}
use Rattle.roster_slots.specs.Tables.{slot_prices}
use Rattle.roster_prices.proofs.NodeRows.{can_search_in, bound_in_is, row_in_is, some_in}
use Rattle.roster_prices.proofs.bounds.row_bound_in.Goals as goal

pub search_at-cost-requires-clause-offers : goal.search_at-cost-requires-clause-offers
search_at-cost-requires-clause-offers g c =
    let t = c.args.terms.now in
    can_search_in t.case.now t.scale (slot_prices t.scale t.dual_prices.now) c.args.node.now t.from t.given.now c.args.nurse t.rows c.requires.nurse c.offer_days_in.new.workspace.offers c.offer_days_in.ensures.offers c.keeps_limits.ensures.small.keep

pub search_at-cost-requires-clause-some : goal.search_at-cost-requires-clause-some
search_at-cost-requires-clause-some g c =
    let t = c.args.terms.now in
    some_in t.case.now t.scale (slot_prices t.scale t.dual_prices.now) c.args.node.now t.from t.given.now c.args.nurse t.rows c.requires.nurse c.offer_days_in.new.workspace.offers c.offer_days_in.ensures.offers

pub returns-clause-bound : goal.returns-clause-bound
returns-clause-bound g c =
    let t = c.args.terms.now in
    ap (λ m. t.scale * m + c.search_at-cost.result) c.start-owed.ensures.cost
    ∙ bound_in_is t.case.now t.scale (slot_prices t.scale t.dual_prices.now) c.args.node.now t.from t.given.now c.args.nurse t.rows c.requires.nurse c.offer_days_in.new.workspace.offers c.offer_days_in.ensures.offers c.search_at-cost.result c.search_at-cost.new.self.row c.search_at-cost.ensures.best

pub returns-clause-row : goal.returns-clause-row
returns-clause-row g c =
    let t = c.args.terms.now in
    row_in_is t.case.now t.scale (slot_prices t.scale t.dual_prices.now) c.args.node.now t.from t.given.now c.args.nurse t.rows c.requires.nurse c.offer_days_in.new.workspace.offers c.offer_days_in.ensures.offers c.search_at-cost.result c.search_at-cost.new.self.row c.search_at-cost.ensures.best
