use Rattle.roster_lanes.specs.Lanes.{LabelsSet}
use Rattle.roster_lanes.proofs.lower.set_few.Given as goal

abbrev pub invariant-lanes : goal.invariant-lanes
invariant-lanes l = record {
  labels : LabelsSet 0 l.i l.others l.more l.most l.labels;
}
