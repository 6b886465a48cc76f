use Rattle.std.proofs.Common.{◌≡◌, ◌+◌, ◌*◌, ◌≤◌, map}
use Rattle.std.specs.List.{range_with_len}
use Rattle.roster_instance.specs.Limits.{most_days, most_shifts, most_skills, most_states}
use Rattle.roster_instance.specs.Sizes.{greatest_of}
use Rattle.roster_laws.specs.Greatest.{extension_count}
use Rattle.roster_rounds.proofs.room.greatest_extensions.Given as goal

abbrev pub invariant-loop-nurse : goal.invariant-loop-nurse
invariant-loop-nurse l = record {
  so_far : l.greatest ≡ greatest_of (map (extension_count l.case) (range_with_len 0 l.nurse));
  within : l.greatest ≤ most_states * most_days * (1 + most_shifts * most_skills);
}
