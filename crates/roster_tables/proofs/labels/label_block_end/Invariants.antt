use Rattle.roster_state.specs.Codes.{code_of}
use Rattle.roster_tables.specs.Days.{BlockLabels}
use Rattle.roster_tables.specs.OpenDays.{KeepsRest}
use Rattle.roster_tables.proofs.labels.label_block_end.Given as goal

abbrev pub invariant-loop-place : goal.invariant-loop-place
invariant-loop-place l = record {
  labels : BlockLabels l.days l.block l.place l.labels;
  outside : KeepsRest (code_of l.days.ranges l.block) l.days.ranges.assignments l.fn.labels l.labels;
}
