use Rattle.std.proofs.Common.{◌<◌}
use Rattle.roster_polish.specs.Fades.{AreFaded}
use Rattle.roster_polish.proofs.fade.make_fade_pass.Given as goal

abbrev pub invariant-loop-position : goal.invariant-loop-position
invariant-loop-position g l = record {
  fewer : 0 < l.position → 0 < l.fn.kicking.searches.left → l.kicking.searches.left < l.fn.kicking.searches.left;
  faded : AreFaded l.base l.fn.kicking l.kicking l.fn.space l.space l.fn.meter l.meter;
}
