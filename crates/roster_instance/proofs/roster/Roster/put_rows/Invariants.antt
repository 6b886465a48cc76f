use Rattle.std.proofs.Common.{◌≡◌, length, map, take}
use Rattle.roster_instance.specs.Rosters.{Row}
use Rattle.roster_instance.proofs.roster.Roster.put_rows.Given as goal

abbrev pub invariant-loop-nurse : goal.invariant-loop-nurse
invariant-loop-nurse l = record {
  days : map (λ (row : Row). length row) l.self ≡ map (λ (row : Row). length row) l.rows;
  before : take l.nurse l.self ≡ take l.nurse l.rows;
}
