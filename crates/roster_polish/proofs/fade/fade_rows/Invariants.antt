use Rattle.std.proofs.Common.{◌<◌}
use Rattle.roster_polish.specs.Fades.{AreFaded}
use Rattle.roster_polish.proofs.fade.fade_rows.Given as goal

abbrev pub invariant-loop-pass : goal.invariant-loop-pass
invariant-loop-pass g l = record {
  fewer : 0 < l.pass → 0 < l.fn.kicking.searches.left → l.kicking.searches.left < l.fn.kicking.searches.left;
  faded : AreFaded l.base l.fn.kicking l.kicking l.fn.space l.space l.fn.meter l.meter;
}
