use Rattle.std.proofs.Common.{◌≡◌}
use Rattle.roster_instance.specs.Meaning.{day_count}
use Rattle.roster_prices.proofs.fading.put_row.Given as goal

abbrev pub invariant-loop-day : goal.invariant-loop-day
invariant-loop-day g l = l.fade_prices.days ≡ day_count l.fn.case
