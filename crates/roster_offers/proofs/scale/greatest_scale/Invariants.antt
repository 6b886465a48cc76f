use Rattle.std.proofs.Common.{◌-◌, ◌*◌, ◌<◌, ◌≤◌}
use Rattle.roster_offers.proofs.scale.greatest_scale.Given as goal

abbrev pub invariant-doubled : goal.invariant-doubled
invariant-doubled l = record {
  some : 0 < l.scale;
  few : l.scale ≤ 128;
  low : l.scale * l.points < 1073741824;
}

abbrev pub decreases-doubled : goal.decreases-doubled
decreases-doubled l = 128 - l.scale
