use Rattle.roster_bound.proofs.NodeLaws.{least-begin}
use Rattle.roster_bound.proofs.nodes.Nodes.least.Goals as goal

pub loop-at-init : goal.loop-at-init
loop-at-init c = least-begin c.args.self.now.items.items c.requires
