use Rattle.std.proofs.Common.{◌≡◌}
use Rattle.roster_instance.specs.Meaning.{day_count}
use Rattle.roster_prices.proofs.fading.price_slots.Given as goal

abbrev pub invariant-loop-slot : goal.invariant-loop-slot
invariant-loop-slot g l = l.fade_prices.days ≡ day_count l.fn.case
