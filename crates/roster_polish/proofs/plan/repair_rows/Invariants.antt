use Rattle.roster_polish.specs.Fades.{AreFaded}
use Rattle.roster_polish.proofs.plan.repair_rows.Given as goal

abbrev pub invariant-loop-pass : goal.invariant-loop-pass
invariant-loop-pass g l = AreFaded l.base l.fn.kicking l.kicking l.fn.space l.space l.fn.meter l.meter
