use Rattle.std.proofs.Common.{◌≡◌, true}
use Rattle.roster_instance.specs.Rosters.{fits_case}
use Rattle.roster_laws.specs.FrozenDays.{FrozenDaysStay}
use Rattle.roster_polish.proofs.near.put_found.Given as goal

abbrev pub invariant-loop-free : goal.invariant-loop-free
invariant-loop-free l = record {
  fits : fits_case l.base.case.now l.faded ≡ true;
  frozen : FrozenDaysStay l.base.case.now l.base.from l.base.given.now l.faded;
}
