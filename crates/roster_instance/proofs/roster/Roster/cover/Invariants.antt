use Rattle.std.proofs.Common.{◌≡◌, map, take, Vec, Global}
use Rattle.roster_instance.specs.declared.choice.Choice.{Choice}
use Rattle.roster_instance.specs.Rosters.{cover}
use Rattle.roster_instance.proofs.roster.Roster.cover.Given as goal

abbrev pub invariant-loop-row : goal.invariant-loop-row
invariant-loop-row l = l.count ≡ cover (map (λ (row : Vec Choice Global). row.items) (take l.row-index l.row-items)) l.day l.shift.0 l.skill.0
