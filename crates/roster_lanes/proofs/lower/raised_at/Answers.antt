use Rattle.roster_lanes.proofs.LaneLemmas.{raised_at}
use Rattle.roster_lanes.proofs.lower.raised_at.Goals as goal

pub returns : goal.returns
returns c i lt = raised_at c.args.others.now c.args.first c.args.more i c.requires.others lt
