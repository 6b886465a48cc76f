use Rattle.std.proofs.Common.{◌≡◌, [], map, take}
use Rattle.std.specs.List.{enumerate_from, flat_map}
use Rattle.roster_instance.specs.Bundles.{solution_meant}
use Rattle.roster_instance.specs.CaseParts.{known_of}
use Rattle.roster_instance.specs.Refusals.{solution_faults}
use Rattle.roster_instance.proofs.roster.tables_of.Given as goal

abbrev pub invariant-loop-week : goal.invariant-loop-week
invariant-loop-week l = record {
  meant : l.tables.items ≡ map (solution_meant l.source l.scenario.nurses l.scenario.shifts l.scenario.skills) (take l.week l.solutions);
  none : flat_map (solution_faults (known_of l.source l.scenario)) (enumerate_from 0 (take l.week l.solutions)) ≡ [];
}
