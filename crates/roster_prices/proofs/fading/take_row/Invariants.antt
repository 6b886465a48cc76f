use Rattle.std.proofs.Common.{◌≡◌}
use Rattle.roster_instance.specs.Meaning.{day_count}
use Rattle.roster_prices.specs.Workspaces.{FitsBound}
use Rattle.roster_prices.proofs.fading.take_row.Given as goal

abbrev pub invariant-loop-day : goal.invariant-loop-day
invariant-loop-day g l = record {
  fits : FitsBound l.fn.case l.bounds;
  days : l.fade_prices.days ≡ day_count l.fn.case;
}
