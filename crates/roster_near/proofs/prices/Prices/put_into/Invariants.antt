use Rattle.std.proofs.Common.{◌≡◌}
use Rattle.roster_instance.specs.Meaning.{day_count}
use Rattle.roster_near.proofs.prices.Prices.put_into.Given as goal

abbrev pub invariant-loop-at : goal.invariant-loop-at
invariant-loop-at l = l.prices.days ≡ day_count l.case
