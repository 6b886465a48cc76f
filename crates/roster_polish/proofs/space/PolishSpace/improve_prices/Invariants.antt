use Rattle.std.proofs.Common.{◌≡◌, ◌-◌, ◌*◌, ◌≤◌}
use Rattle.roster_instance.specs.Meaning.{nurse_count}
use Rattle.roster_polish.specs.Fades.{AreMade}
use Rattle.roster_polish.specs.Polished.{FitsPolish}
use Rattle.roster_polish.specs.Settled.{Spends}
use Rattle.roster_polish.proofs.space.PolishSpace.improve_prices.Given as goal

abbrev pub invariant-loop-made : goal.invariant-loop-made
invariant-loop-made g l = record {
  made : AreMade l.base.case.now l.fn.meter l.fn.searches.left l.meter l.searches.left;
  spends : Spends l.base.case.now l.fn.meter l.fn.searches.left l.meter l.searches.left;
  within : (l.rounds - l.made) * nurse_count l.base.case.now ≤ l.searches.left;
  ends : l.searches.deadline.ends ≡ l.fn.searches.deadline.ends;
  fits : FitsPolish l.base.case.now l.self;
}
