use Rattle.roster_lanes.specs.Lanes.{LabelsLowered, PointersSet, SameOutside}
use Rattle.roster_lanes.proofs.lower.lower_few.Given as goal

abbrev pub invariant-lanes : goal.invariant-lanes
invariant-lanes l = record {
  labels : LabelsLowered 0 l.i l.others l.more l.fn.labels l.labels;
  pointers : PointersSet 0 l.i l.others l.more l.pointer l.fn.labels l.fn.pointers l.pointers;
  labels_others : SameOutside 0 l.i l.fn.labels l.labels;
  pointers_others : SameOutside 0 l.i l.fn.pointers l.pointers;
}
