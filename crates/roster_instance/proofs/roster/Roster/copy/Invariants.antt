use Rattle.std.proofs.Common.{◌≡◌, map, take, Vec, Global}
use Rattle.roster_instance.specs.declared.choice.Choice.{Choice}
use Rattle.roster_instance.proofs.roster.Roster.copy.Given as goal

abbrev pub invariant-loop-row : goal.invariant-loop-row
invariant-loop-row l = map (λ (row : Vec Choice Global). row.items) l.rows.items ≡ map (λ (row : Vec Choice Global). row.items) (take l.row-index l.row-items)
