use Rattle.std.proofs.Common.{◌<◌}
use Rattle.roster_state.specs.Codes.{code_of}
use Rattle.roster_tables.specs.Days.{EndLabels}
use Rattle.roster_tables.specs.OpenDays.{KeepsRest, group_places}
use Rattle.roster_tables.specs.Tables.{IsReachableLike}
use Rattle.roster_tables.proofs.labels.label_group_end.Given as goal

abbrev pub invariant-loop-weekends : goal.invariant-loop-weekends
invariant-loop-weekends l = record {
  labels : EndLabels (λ s. IsReachableLike l.days.search.case.now l.days.search.nurse l.boxes l.group s × (s.weekends < l.weekends)) l.days l.labels;
  outside : KeepsRest (code_of l.days.ranges l.group) (group_places l.days) l.fn.labels l.labels;
}
