use Rattle.std.proofs.Common.{◌≡◌, map}
use Rattle.std.specs.List.{range_with_len}
use Rattle.roster_instance.specs.Bundles.{choice_meant}
use Rattle.roster_instance.proofs.roster.row_of.Given as goal

abbrev pub invariant-loop-day : goal.invariant-loop-day
invariant-loop-day l = l.row.items ≡ map (choice_meant l.tables l.nurse) (range_with_len 0 l.day)
