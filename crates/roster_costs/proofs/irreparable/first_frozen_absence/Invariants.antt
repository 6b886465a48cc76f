use Rattle.std.proofs.Common.{◌≡◌, []}
use Rattle.roster_instance.specs.Faults.{below}
use Rattle.roster_instance.specs.Meaning.{day_count}
use Rattle.roster_costs.specs.Irreparable.{frozen_absences_of}
use Rattle.roster_costs.proofs.irreparable.first_frozen_absence.Given as goal

abbrev pub invariant-loop-nurse : goal.invariant-loop-nurse
invariant-loop-nurse l = below l.nurse (λ n. frozen_absences_of l.case l.from l.roster n (day_count l.case)) ≡ []
