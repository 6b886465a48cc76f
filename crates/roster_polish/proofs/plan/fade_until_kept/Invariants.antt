use Rattle.std.proofs.Common.{◌≡◌, ◌<◌, ◌≤◌, true}
use Rattle.roster_laws.specs.FrozenDays.{FrozenDaysStay}
use Rattle.roster_polish.specs.Fades.{AreMade}
use Rattle.roster_costs.specs.Minimums.{missing}
use Rattle.roster_polish.specs.Plans.{keeps_rows}
use Rattle.roster_polish.specs.Polished.{FitsPolish}
use Rattle.roster_polish.specs.Settled.{Spends}
use Rattle.roster_polish.proofs.plan.fade_until_kept.Given as goal

abbrev pub invariant-fades : goal.invariant-fades
invariant-fades g l = record {
  least : keeps_rows l.base.case.now l.base.given.now ≡ true → l.least ≡ missing l.base.case.now l.space.kept;
  nearer : keeps_rows l.base.case.now l.base.given.now ≡ true → missing l.base.case.now l.space.kept ≤ missing l.base.case.now l.base.given.now;
  passes : 0 < l.kicking.passes;
  ends : l.kicking.searches.deadline.ends ≡ l.fn.kicking.searches.deadline.ends;
  frozen : FrozenDaysStay l.base.case.now l.base.from l.base.given.now l.space.kept;
  made : AreMade l.base.case.now l.fn.meter l.fn.kicking.searches.left l.meter l.kicking.searches.left;
  spends : Spends l.base.case.now l.fn.meter l.fn.kicking.searches.left l.meter l.kicking.searches.left;
  fits : FitsPolish l.base.case.now l.space;
}

abbrev pub decreases-fades : goal.decreases-fades
decreases-fades g l = l.kicking.searches.left
