use Rattle.std.proofs.Common.{◌∙◌}
use Rattle.roster_slots.specs.Tables.{slot_prices}
use Rattle.roster_bound.proofs.NodeBounds.{bound_of_root}
use Rattle.roster_bound.proofs.bounds.lower_bound.Goals as goal

pub returns-clause-bound : goal.returns-clause-bound
returns-clause-bound g c = c.lower_bound_in.ensures.bound ∙ bound_of_root c.args.terms.now.case.now c.args.terms.now.from c.args.terms.now.given.now c.args.terms.now.scale (slot_prices c.args.terms.now.scale c.args.terms.now.dual_prices.now)
