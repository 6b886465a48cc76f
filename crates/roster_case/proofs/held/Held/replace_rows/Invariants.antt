use Rattle.std.proofs.Common.{◌≡◌, take, true}
use Rattle.roster_instance.specs.Rosters.{fits_case}
use Rattle.roster_case.specs.Held.{AreCounts}
use Rattle.roster_case.proofs.held.Held.replace_rows.Given as goal

abbrev pub invariant-loop-nurse : goal.invariant-loop-nurse
invariant-loop-nurse l = record {
  case_is : l.self-inside.case ≡ l.initial.self-inside.case;
  fits : fits_case l.self-inside.case l.self-inside.roster ≡ true;
  counted : AreCounts l.self-inside.case l.self-inside.roster l.self-inside.counts;
  before : take l.nurse l.self-inside.roster ≡ take l.nurse l.rows;
}
