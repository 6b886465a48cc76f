use Rattle.std.proofs.Common.{◌≡◌, map, Vec, Global}
use Rattle.std.specs.List.{range_with_len}
use Rattle.roster_instance.specs.Bundles.{row_meant}
use Rattle.roster_instance.specs.declared.choice.Choice.{Choice}
use Rattle.roster_instance.proofs.roster.rows_of.Given as goal

abbrev pub invariant-loop-nurse : goal.invariant-loop-nurse
invariant-loop-nurse l = map (λ (row : Vec Choice Global). row.items) l.rows.items ≡ map (row_meant l.tables) (range_with_len 0 l.nurse)
