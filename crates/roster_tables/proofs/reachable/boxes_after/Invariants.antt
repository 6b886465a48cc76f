use Rattle.std.proofs.Common.{take}
use Rattle.std.specs.List.{All}
use Rattle.roster_tables.specs.Tables.{LeadsOn}
use Rattle.roster_tables.proofs.reachable.boxes_after.Given as goal

abbrev pub invariant-loop-place : goal.invariant-loop-place
invariant-loop-place l = All (LeadsOn l.search.case.now l.search.nurse l.day l.boxes l.after) (take l.place l.offers)
