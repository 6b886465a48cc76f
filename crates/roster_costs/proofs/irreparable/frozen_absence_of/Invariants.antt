use Rattle.std.proofs.Common.{◌≡◌, []}
use Rattle.roster_costs.specs.Irreparable.{frozen_absences_of}
use Rattle.roster_costs.proofs.irreparable.frozen_absence_of.Given as goal

abbrev pub invariant-loop-day : goal.invariant-loop-day
invariant-loop-day l = frozen_absences_of l.case l.from l.roster l.nurse l.day ≡ []
