use Rattle.std.proofs.Common.{ap, arith}
use Rattle.roster_slots.specs.Tables.{PriceTable}
use Rattle.roster_slots.proofs.PriceLemmas.{even_at}
use Rattle.roster_slots.proofs.dual_prices.DualPrices.set_all.Goals as goal

-- each slot of the case is set
pub returns-clause-even : goal.returns-clause-even
returns-clause-even c scale d s k in_days in_shifts in_skills =
    even_at c.args.case.now scale c.args.dual_price c.loop-slot.self-inside.fine.items c.keeps_limits.ensures.shifts c.keeps_limits.ensures.skills
    (λ at inside. c.loop-slot.invariant.even at (omega (arith, inside, c.loop-slot-test.false, c.len-slot-end.ensures, c.self.invariant.slots, ap (λ (t : PriceTable). t.days) c.self.view_is, c.requires.days)))
    d s k in_days in_shifts in_skills
