use Rattle.std.proofs.Common.{◌*◌}
use Rattle.roster_lanes.specs.declared.lower.TheConstants.{LANES}
use Rattle.roster_lanes.specs.Lanes.{LabelsLowered, PointersSet, SameOutside}
use Rattle.roster_lanes.proofs.lower.lower_all.Given as goal

abbrev pub invariant-vectors : goal.invariant-vectors
invariant-vectors l = record {
  labels : LabelsLowered 0 (l.vector * LANES) l.others l.more l.fn.labels l.labels;
  pointers : PointersSet 0 (l.vector * LANES) l.others l.more l.pointer l.fn.labels l.fn.pointers l.pointers;
  labels_others : SameOutside 0 (l.vector * LANES) l.fn.labels l.labels;
  pointers_others : SameOutside 0 (l.vector * LANES) l.fn.pointers l.pointers;
}
