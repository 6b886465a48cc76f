use Rattle.std.proofs.Common.{◌*◌}
use Rattle.roster_lanes.specs.declared.lower.TheConstants.{LANES}
use Rattle.roster_lanes.specs.Lanes.{LabelsSet}
use Rattle.roster_lanes.proofs.lower.set_all.Given as goal

abbrev pub invariant-vectors : goal.invariant-vectors
invariant-vectors l = record {
  labels : LabelsSet 0 (l.vector * LANES) l.others l.more l.most l.labels;
}
