use Rattle.std.proofs.Common.{◌≡◌, ◌∙◌, ◌≤◌, List, ap, arith, get_or, set}
use Rattle.std.proofs.lemmas.Bool.{ltb-false}
use Rattle.std.proofs.lemmas.List.{set-get_or}
use Rattle.roster_bound.specs.declared.nodes.Node.{Node}
use Rattle.roster_bound.proofs.NodeLaws.{priced_at, raised_nodes}
use Rattle.roster_bound.proofs.tree.raise_at.Goals as goal

pub returns-clause-nodes : goal.returns-clause-nodes
returns-clause-nodes g c =
    let b = c.args.upper.now.base.now in
    raised_nodes b.case.now b.from b.given.now c.args.space.now.nodes.items.items c.args.at c.index_mut-node.result.now c.raise_node.new.node c.requires.nodes c.requires.at c.index_mut-node.ensures.value c.raise_node.ensures.decisions
    c.raise_node.ensures.below c.raise_node.ensures.priced

pub raise_node-requires-clause-priced : goal.raise_node-requires-clause-priced
raise_node-requires-clause-priced g c =
    let b = c.args.upper.now.base.now in
    priced_at b.case.now b.from b.given.now c.args.space.now.nodes.items.items c.args.at c.index_mut-node.result.now c.requires.nodes c.requires.at c.index_mut-node.ensures.value

-- its decisions stay, and its bound doesn't rise: so nothing changes

pub returns-clause-same : goal.returns-clause-same
returns-clause-same g c = λ is_same.
    let old : Node = c.index_mut-node.result.now in
    let new : Node = c.raise_node.new.node in
    let nodes : List Node = c.args.space.now.nodes.items.items in
    let below : new.bound ≤ old.bound = ltb-false _ _ is_same in
    let bound : new.bound ≡ old.bound = omega (arith, c.raise_node.ensures.rises) in
    let node : new ≡ old = λ i. record { decisions = c.raise_node.ensures.decisions i; bound = bound i } in
    let reads : old ≡ get_or nodes c.args.at old = c.index_mut-node.ensures.value in
    ap (λ (x : Node). set nodes c.args.at x) (node ∙ reads) ∙ set-get_or nodes c.args.at old
