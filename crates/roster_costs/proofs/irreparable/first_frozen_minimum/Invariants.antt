use Rattle.std.proofs.Common.{◌≡◌, []}
use Rattle.roster_instance.specs.Faults.{below}
use Rattle.roster_costs.specs.Irreparable.{frozen_minimums_on}
use Rattle.roster_costs.proofs.irreparable.first_frozen_minimum.Given as goal

abbrev pub invariant-loop-day : goal.invariant-loop-day
invariant-loop-day l = below l.day (frozen_minimums_on l.case l.from l.roster) ≡ []
