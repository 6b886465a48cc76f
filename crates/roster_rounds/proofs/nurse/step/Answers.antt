use Rattle.std.proofs.Common.{subst, sym}
use Rattle.roster_laws.specs.FrozenDays.{FrozenDaysStay}
use Rattle.roster_laws.proofs.Frozen.{step_stays}
use Rattle.roster_rounds.proofs.nurse.step.Goals as goal

pub put_in_cheaper-requires-clause-best : goal.put_in_cheaper-requires-clause-best
put_in_cheaper-requires-clause-best g c = (c.args.from, c.best_row-best.ensures.best)

pub returns-clause-roster : goal.returns-clause-roster
returns-clause-roster g c = c.put_in_cheaper.ensures.roster c.args.from c.best_row-best.ensures.best

pub returns-clause-frozen : goal.returns-clause-frozen
returns-clause-frozen g c = subst (FrozenDaysStay c.args.held.now.case c.args.from c.args.held.now.roster) (sym (returns-clause-roster g c)) (step_stays c.args.held.now.case c.args.from c.args.held.now.roster c.args.nurse)
